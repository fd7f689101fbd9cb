-- What is claimed of the clients of a server that runs follows from the laws on clients, since a port takes what a
-- client alone is handed.
use Rattle.std.proofs.Common.{◌≡◌, ◌∙◌, ℕ, List, [], ◌∷◌, ◌++◌, ap, refl, sym, subst}
use Rattle.protocol.specs.Catalog.{Config}
use Rattle.protocol.specs.World.{empty_world, handed}
use Rattle.protocol.specs.Alone.{all_restricted, handed_to, own_view, restricted, seen}
use Rattle.protocol.proofs.AloneLemmas.{isolated}
use Rattle.protocol.proofs.Transfers.{hands_seen, keeps_up_seen, misses_alone}
use Rattle.protocol.proofs.Views.{alike, without_hidden}
use Rattle.serving.specs.Acts.{Act, HandsThroughout, all_events, all_taken}
use Rattle.serving.specs.Acts.Act.{Turning}
use Rattle.serving.specs.Claims.{HasDone, TakesAlike, TakesAllButOverruns, TakesAllThatIsHeld, TakesAsWithoutHidden}
use Rattle.serving.specs.Claims.{TakesWhatIsHanded, bytes_of, handed_for}
use Rattle.serving.specs.Claims.HasDone.{ended_early, so_far}

-- what a port takes from a server's start on
from-the-start : (config : Config) (acts : List Act) (k : ℕ) → HandsThroughout config empty_world acts
    → TakesWhatIsHanded config acts k
from-the-start config acts k throughout =
    sym (throughout config [] refl refl k) ∙ sym (ap bytes_of (isolated config (all_events acts) k))

pub takes-what-is-handed : {F : Type 0} (config : Config) (acts : List Act) (k : ℕ) → HasDone F config acts
    → TakesWhatIsHanded config acts k
takes-what-is-handed config acts k (so_far t calls first v asked asked' done failures kept begins x is) =
    subst (λ a. TakesWhatIsHanded config a k) (sym is) (from-the-start config x.acts k x.isolation)
takes-what-is-handed config acts k (ended_early t calls first v asked asked' begins x is) =
    subst (λ a. TakesWhatIsHanded config a k) (sym is)
    (from-the-start config (x.ran.acts ++ Turning x.last.deeds ∷ []) k x.isolation)

pub takes-alike : (F : Type 0) → TakesAlike F
takes-alike F config config' acts acts' k k' run run' view own =
    takes-what-is-handed config acts k run
    ∙ ap bytes_of (alike config config' (all_events acts) (all_events acts') k k' view own)
    ∙ sym (takes-what-is-handed config' acts' k' run')

pub takes-as-without-hidden : (F : Type 0) → TakesAsWithoutHidden F
takes-as-without-hidden F config acts keep k run kept accepted =
    let same : all_taken k acts
    ≡ bytes_of (handed_to k (handed (restricted keep config) (all_restricted keep (all_events acts)))) =
    takes-what-is-handed config acts k run
    ∙ sym (ap bytes_of (without_hidden config keep (all_events acts) k kept accepted)) in (
      same,
      λ acts' run' events. takes-what-is-handed (restricted keep config) acts' k run'
          ∙ ap (λ es. bytes_of (handed_to k (handed (restricted keep config) es))) events ∙ sym same,
    )

pub takes-all-but-overruns : (F : Type 0) → TakesAllButOverruns F
takes-all-but-overruns F config acts k run =
    let v = own_view config (all_events acts) k in
    let own = seen config (all_events acts) k in
    (takes-what-is-handed config acts k run, (misses_alone v own, hands_seen config (all_events acts) k))

pub takes-all-that-is-held : (F : Type 0) → TakesAllThatIsHeld F
takes-all-that-is-held F config acts k run =
    (takes-what-is-handed config acts k run, keeps_up_seen config (all_events acts) k)
