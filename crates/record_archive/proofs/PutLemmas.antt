-- What an archive holds of one more record.
use Rattle.std.proofs.Common.{◌≡◌, List, [], ◌∷◌, ◌++◌, Option, Some, None, Ok, Err, ℕ, refl}
use Rattle.std.specs.Prelude.{Result}
use Rattle.std.specs.Result.{result_ok}
use Rattle.protocol.specs.Record.{Facts, header_of}
use Rattle.protocol.specs.declared.record.RecordFault.{RecordFault}
use Rattle.record_archive.specs.Archives.{HoldsMore, IsPut, IsUnplaced, Put, PutsOne}
use Rattle.record_archive.specs.Archives.ArePut.{One_put, One_unplaced}
use Rattle.record_archive.specs.Archives.IsUnplaced.{Invalid}
use Rattle.record_archive.specs.Stations.{CodesValue}

pub held-same : (stations : List CodesValue) (old : Option (List Put)) (r : List ℕ) → IsUnplaced stations r
    → HoldsMore stations old old (r ∷ [])
held-same stations old r is rs ps e put = (ps, e, One_unplaced put is)

pub held-put : (stations : List CodesValue) (old new : Option (List Put)) (r : List ℕ) (p : Put)
    → IsPut stations r p → PutsOne old new p → HoldsMore stations old new (r ∷ [])
held-put stations old new r p is puts rs ps e put = (ps ++ p ∷ [], puts ps e, One_put put is)

-- what a record says, if it can be read
ok-of : (r : Result Facts RecordFault) (x : Facts) → result_ok r ≡ Some x → r ≡ Ok x
ok-of (Ok y) x e = cc
ok-of (Err fault) x e = absurd cc

err-of : (stations : List CodesValue) (bytes : List ℕ) (r : Result Facts RecordFault) → header_of bytes ≡ r
    → result_ok r ≡ None → IsUnplaced stations bytes
err-of stations bytes (Ok x) is e = absurd cc
err-of stations bytes (Err fault) is e = Invalid fault is

pub valid-record : (bytes : List ℕ) (x : Facts) → result_ok (header_of bytes) ≡ Some x → header_of bytes ≡ Ok x
valid-record bytes x e = ok-of (header_of bytes) x e

pub invalid-record : (stations : List CodesValue) (bytes : List ℕ) → result_ok (header_of bytes) ≡ None
    → IsUnplaced stations bytes
invalid-record stations bytes e = err-of stations bytes (header_of bytes) refl e
