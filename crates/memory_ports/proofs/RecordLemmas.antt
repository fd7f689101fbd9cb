-- A port's record, call after call.
use Rattle.std.proofs.Common.{◌≡◌, ℕ, List, [], ◌∷◌, ◌++◌, refl}
use Rattle.ports.specs.Calls.{Call}
use Rattle.memory_ports.specs.Records.{PortValue, with_call, after_calls}

pub after_calls-append : (port : ℕ) (v : PortValue) (xs ys : List Call)
    → after_calls port v (xs ++ ys) ≡ after_calls port (after_calls port v xs) ys
after_calls-append port v [] ys = refl
after_calls-append port v (x ∷ xs) ys = after_calls-append port (with_call port v x) xs ys
