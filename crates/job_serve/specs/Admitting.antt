-- Who may connect to a server, by the words of its command line.
use Rattle.std.specs.Prelude.{◌≡◌, ℕ, List, [], Option, Some, None, Ok, Err}
use Rattle.std.specs.Borrow.{Bor}
use Rattle.protocol.specs.Access.{Token}
use Rattle.access_list.specs.Tokens.{list_of}
use Rattle.access_list.specs.declared.fault.AccessFault.{AccessFault}
use Rattle.protocol.specs.declared.reason.Reason.TheVariants.{Access}
use Rattle.incidents.specs.declared.incident.Incident.{Incident}
use Rattle.incidents.specs.declared.site.Place.TheVariants.{Word}

-- Connections are taken from the addresses of the list that a word spells, or by no list without one.
abbrev pub FromList : Option (Bor (List ℕ)) → Option (List Token) → Type 0
FromList None list = list ≡ None
FromList (Some word) None = ⊥
FromList (Some word) (Some list) = list_of word.now ≡ Ok list

-- A status port is asked by the name that a word says, or by none besides addresses and localhost.
abbrev pub AsksBy : Option (Bor (List ℕ)) → List ℕ → Type 0
AsksBy None name = name ≡ []
AsksBy (Some word) name = name ≡ word.now

-- A word spells no list, for the fault of its first invalid entry.
pub record IsRefused (word : Bor (List ℕ)) (incident : Incident) : Type 0 where
  pub fault : AccessFault
  pub is : list_of word.now ≡ Err fault
  pub reason : incident.failure.reason ≡ Access
  pub place : incident.site.place ≡ Word word

abbrev pub RefusesList : Option (Bor (List ℕ)) → Incident → Type 0
RefusesList None incident = ⊥
RefusesList (Some word) incident = IsRefused word incident
