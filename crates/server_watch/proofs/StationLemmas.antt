-- What is told of stations, one after the other.
use Rattle.std.proofs.Common.{◌≡◌, ◌∙◌, ◌<◌, ◌+◌, ℕ, List, [], ◌∷◌, ◌++◌, length}
use Rattle.std.proofs.Common.{get_or, Vec, arith, ap, sym, subst, inl, inr}
use Rattle.std.proofs.Common.{length-append, Option}
use Rattle.std.proofs.Math.Seq.{get_or-append_seam}
use Rattle.std.proofs.lemmas.Bool.{cases_lt}
use Rattle.std.proofs.lemmas.List.{get_or_append_left, get_or_default}
use Rattle.std.specs.declared.alloc.Global.{Global}
use Rattle.protocol.specs.Catalog.{Entry as ConfigEntry}
use Rattle.station_ring.specs.HeldRecords.{RingsValue}
use Rattle.status_page.specs.declared.value.StationStatus.{StationStatus}
use Rattle.server_watch.specs.Watching.{TellsOf, limit_at, listed_at}
use Rattle.server_watch.specs.declared.arrivals.Arrivals.{Arrivals}

-- so many stations were told of, each as its own
pub record TellsUpTo (place now : ℕ) (entries : List ConfigEntry) (rings : RingsValue) (arrivals : List Arrivals)
    (users : List (Vec ℕ Global)) (limits : List (Option ℕ)) (told : List StationStatus) : Type 0 where
  pub count : length told ≡ place
  pub each : (k : ℕ) (e : ConfigEntry) (s : StationStatus) → k < length told
      → TellsOf now k (get_or entries k e) rings arrivals (listed_at users k) (limit_at limits k) (get_or told k s)

module _ (now : ℕ) (entries : List ConfigEntry) (rings : RingsValue) (arrivals : List Arrivals)
    (users : List (Vec ℕ Global)) (limits : List (Option ℕ)) where
  pub tells-none : TellsUpTo 0 now entries rings arrivals users limits []
  tells-none = record { count = omega arith; each = λ k e s inside. absurd (omega (arith, inside)) }

  abbrev Own : ℕ → ConfigEntry → StationStatus → Type 0
  Own k e s = TellsOf now k (get_or entries k e) rings arrivals (listed_at users k) (limit_at limits k) s

  -- one station more
  pub tells-more : (place : ℕ) (entry : ConfigEntry) (status : StationStatus) (told told' : List StationStatus)
      → place < length entries → entry ≡ get_or entries place entry
      → TellsOf now place entry rings arrivals (listed_at users place) (limit_at limits place) status → told' ≡ told ++ status ∷ []
      → TellsUpTo place now entries rings arrivals users limits told
      → TellsUpTo (place + 1) now entries rings arrivals users limits told'
  tells-more place entry status told told' inside is own pushed h = record {
    count = omega (arith, h.count, ap length pushed, length-append told (status ∷ []));
    each = λ k e s below. subst (λ (l : List StationStatus). Own k e (get_or l k s)) (sym pushed)
        (by_place k e s (omega (arith, below, ap length pushed, length-append told (status ∷ []))));
  }
    where
      at_end : (e : ConfigEntry) (s : StationStatus) → Own place e (get_or (told ++ status ∷ []) place s)
      at_end e s =
          subst (λ (x : StationStatus). Own place e x)
          (sym (ap (λ n. get_or (told ++ status ∷ []) n s) (sym h.count) ∙ get_or-append_seam told status [] s))
          (subst (λ (x : ConfigEntry). TellsOf now place x rings arrivals (listed_at users place) (limit_at limits place) status)
          (is ∙ get_or_default entries place entry e inside) own)

      by_place : (k : ℕ) (e : ConfigEntry) (s : StationStatus) → k < length told + 1
          → Own k e (get_or (told ++ status ∷ []) k s)
      by_place k e s below =
          elim (cases_lt k (length told)) [
            | inl before ↦ subst (λ (x : StationStatus). Own k e x)
                (sym (get_or_append_left told (status ∷ []) s k before)) (h.each k e s before)
            | inr past ↦
                let last : place ≡ k = omega (arith, h.count, past, below) in
                subst (λ n. Own n e (get_or (told ++ status ∷ []) n s)) last (at_end e s)
          ]
