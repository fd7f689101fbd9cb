-- Answers: a head and a body. HTTP/1.1: a status line, fields, an empty line, and a body of a told length.
use Rattle.std.specs.Prelude.{ℕ, Bool, true, false, if◌then◌else◌, List, [], ◌∷◌, ◌++◌, length, codes}
use Rattle.status_page.specs.declared.answers.Templates.{Templates}
use Rattle.status_page.specs.declared.escape.Language.TheVariants as language
use Rattle.status_page.specs.declared.request.StatusRequest.{StatusRequest}
use Rattle.status_page.specs.declared.request.Target.{Target}
use Rattle.status_page.specs.declared.request.Target.TheVariants.{Page, PageByAge, Metrics, Health, Plain, Missing}
use Rattle.status_page.specs.declared.request.Target.TheVariants.{NotAllowed, Misdirected, TooLong, Invalid}
use Rattle.status_page.specs.declared.request.Target.TheVariants.{PlainSilent, Json}
use Rattle.status_page.specs.declared.value.StatusValue.{StatusValue}
use Rattle.status_page.specs.Places.{head_values}
use Rattle.status_page.specs.Templates.{filled, row_text}

-- the code of an answer, with its phrase
abbrev pub code_of : (is_silent : Bool) → Target → List ℕ
code_of is_silent Page = codes "200 OK"
code_of is_silent PageByAge = codes "200 OK"
code_of is_silent Metrics = codes "200 OK"
code_of is_silent Health = if is_silent then codes "503 Service Unavailable" else codes "200 OK"
code_of is_silent Plain = if is_silent then codes "503 Service Unavailable" else codes "200 OK"
code_of is_silent PlainSilent = if is_silent then codes "503 Service Unavailable" else codes "200 OK"
code_of is_silent Json = codes "200 OK"
code_of is_silent Missing = codes "404 Not Found"
code_of is_silent NotAllowed = codes "405 Method Not Allowed"
code_of is_silent Misdirected = codes "421 Misdirected Request"
code_of is_silent TooLong = codes "431 Request Header Fields Too Large"
code_of is_silent Invalid = codes "400 Bad Request"

-- what its body is
abbrev pub kind_of : Target → List ℕ
kind_of Page = codes "text/html; charset=utf-8"
kind_of PageByAge = codes "text/html; charset=utf-8"
kind_of Metrics = codes "text/plain; version=0.0.4; charset=utf-8"
kind_of Json = codes "application/json"
kind_of _ = codes "text/plain; charset=utf-8"

-- the body of a refusal
abbrev pub refusal_text : Templates → Target → List ℕ
refusal_text ts target = row_text language.Plain ts.refusal.now (head_values (code_of false target) (kind_of target) 0)

-- the body of an answer
abbrev pub body_text : Templates → Target → StatusValue → List ℕ
body_text ts Page v = filled language.Html v ts.page.now
body_text ts PageByAge v = filled language.Html v ts.page.now
body_text ts Metrics v = filled language.Metrics v ts.metrics.now
body_text ts Health v = filled language.Plain v ts.health.now
body_text ts Plain v = filled language.Plain v ts.plain.now
body_text ts PlainSilent v = filled language.Plain v ts.plain_silent.now
body_text ts Json v = filled language.Json v ts.json.now
body_text ts target v = refusal_text ts target

-- the head of an answer with so many bytes after it
abbrev pub head_of : Templates → (code kind : List ℕ) → (size : ℕ) → List ℕ
head_of ts code kind size = row_text language.Plain ts.head.now (head_values code kind size)

-- an answer: its head, and its body if that is wanted
abbrev pub answer_text : Templates → StatusRequest → (is_silent : Bool) → (body : List ℕ) → List ℕ
answer_text ts r is_silent body =
    head_of ts (code_of is_silent r.target) (kind_of r.target) (length body) ++ (if r.is_head then [] else body)
