-- The texts of answers, which are kept for a second.
use Rattle.std.specs.Prelude.{◌≡◌, ℕ, ◌-◌, nat_lt, Bool, true, false, List, Option, Some, None, slice_get, slice_set}
use Rattle.status_page.specs.Answers.{body_text}
use Rattle.status_page.specs.Values.{any_silent}
use Rattle.status_page.specs.declared.answers.Templates.{Templates}
use Rattle.status_page.specs.declared.request.Target.{Target}
use Rattle.status_page.specs.declared.request.Target.TheVariants.{Page, PageByAge, Metrics, Health, Plain}
use Rattle.status_page.specs.declared.request.Target.TheVariants.{PlainSilent, Json}
use Rattle.status_page.specs.declared.value.StatusValue.{StatusValue}
use Rattle.status_ports.specs.KeptValues.{KeptValue}
use Rattle.status_ports.specs.declared.kept.Found.{Found}
use Rattle.status_ports.specs.declared.kept.Found.TheVariants.{Fresh, Missing, Refusal}

-- the text for a target of what is told of a server at a time
abbrev pub text_made : Templates → Target → StatusValue → (now : ℕ) → KeptValue
text_made templates target status now =
    record {
      body = body_text templates target status;
      is_silent = any_silent status.stations.now;
      made = Some now;
    }

-- It was made less than a second ago.
abbrev pub made_lately : (now : ℕ) → Option ℕ → Bool
made_lately now None = false
made_lately now (Some made) = nat_lt (now - made) 1000

abbrev pub is_fresh : (now : ℕ) → KeptValue → Bool
is_fresh now k = made_lately now k.made

-- where the text for a target stands
abbrev pub place_of : Target → Option ℕ
place_of Page = Some 0
place_of PageByAge = Some 1
place_of Metrics = Some 2
place_of Health = Some 3
place_of Plain = Some 4
place_of PlainSilent = Some 5
place_of Json = Some 6
place_of _ = None

-- the text that is kept for a target
abbrev pub at_place : Option ℕ → List KeptValue → Option KeptValue
at_place None k = None
at_place (Some place) k = slice_get k place

abbrev pub kept_at : Target → List KeptValue → Option KeptValue
kept_at target k = at_place (place_of target) k

-- the texts with another one at a place
abbrev pub put_at : Option ℕ → KeptValue → List KeptValue → List KeptValue
put_at None text k = k
put_at (Some place) text k = slice_set k place text

abbrev pub with_made : Target → KeptValue → List KeptValue → List KeptValue
with_made target text k = put_at (place_of target) text k

-- What was found for a target is its own text, made less than a second ago; it is missing if that is older, and refused
-- if there is none.
abbrev pub IsFoundFor : Target → (now : ℕ) → List KeptValue → Found → Type 0
IsFoundFor target now k (Fresh text) = (kept_at target k ≡ Some text.now) × (is_fresh now text.now ≡ true)
IsFoundFor target now k Missing = (text : KeptValue) × (kept_at target k ≡ Some text) × (is_fresh now text ≡ false)
IsFoundFor target now k Refusal = kept_at target k ≡ None
