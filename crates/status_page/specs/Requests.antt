-- What is asked of the status port. HTTP/1.1: GET and HEAD. The paths are this project's own.
use Rattle.std.specs.Prelude.{ℕ, if◌then◌else◌, List, true, false, codes}
use Rattle.std.specs.Str.{bytes_eq}
use Rattle.httparse.specs.Grammar.{RequestHead}
use Rattle.status_page.specs.Hosts.{any_foreign}
use Rattle.status_page.specs.declared.request.StatusRequest.{StatusRequest}
use Rattle.status_page.specs.declared.request.Target.{Target}
use Rattle.status_page.specs.declared.request.Target.TheVariants.{Page, PageByAge, Metrics, Health, Plain, Missing}
use Rattle.status_page.specs.declared.request.Target.TheVariants.{NotAllowed, Misdirected, PlainSilent, Json}

-- how many fields a head may have
abbrev pub MAX_FIELDS : ℕ
MAX_FIELDS = 64

-- what a path is for
abbrev pub target_of : List ℕ → Target
target_of path =
    if bytes_eq path (codes "/") then Page
    else if bytes_eq path (codes "/?sort=age") then PageByAge
    else if bytes_eq path (codes "/metrics") then Metrics
    else if bytes_eq path (codes "/health") then Health
    else if bytes_eq path (codes "/plain") then Plain
    else if bytes_eq path (codes "/plain?state=silent") then PlainSilent
    else if bytes_eq path (codes "/json") then Json
    else Missing

-- what is asked by a method and a path
abbrev pub request_of : (method path : List ℕ) → StatusRequest
request_of method path =
    if bytes_eq method (codes "GET") then record { target = target_of path; is_head = false }
    else if bytes_eq method (codes "HEAD") then record { target = target_of path; is_head = true }
    else record { target = NotAllowed; is_head = false }

-- what is asked of a server of a name by a head: nothing is told whoever asks by the name of another site
unfoldable pub asked_by : (name : List ℕ) → RequestHead → StatusRequest
asked_by name h =
    if any_foreign name h.fields then record (request_of h.method h.target) { target = Misdirected }
    else request_of h.method h.target
