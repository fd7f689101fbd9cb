-- Bytes that wait, from one step of a write to the next.
use Rattle.std.proofs.Common.{◌≡◌, ℕ, ◌+◌, ◌-◌, ◌++◌, List, length, take, drop, ap, sym, ◌∙◌, arith}
use Rattle.std.proofs.Common.{length-append, length-drop, Result, Ok, Err}
use Rattle.std.proofs.lemmas.List.{drop-append-le, drop-drop, take_all}
use Rattle.ports.specs.declared.answers.Put.{Put}
use Rattle.ports.specs.declared.answers.Put.TheVariants.{Took, Later}
use Rattle.ports.specs.declared.answers.PortFault.{PortFault}
use Rattle.ports_socket.specs.Waiting.{HaveGone, TakesInOrder}

-- None are gone.
pub gone_none : (before after : List ℕ) → after ≡ before → HaveGone before after
gone_none before after same = record { count = 0; some = omega arith; others_wait = same }

-- The first ones are gone, and then the first of those that were left.
pub gone_over : (before mid after : List ℕ) → HaveGone before mid → HaveGone mid after → HaveGone before after
gone_over before mid after first second = record {
  count = first.count + second.count;
  some =
      let rest : length mid ≡ length before - first.count =
      ap length first.others_wait ∙ length-drop first.count before in
      omega (arith, rest, first.some, second.some);
  others_wait = second.others_wait ∙ ap (drop second.count) first.others_wait
      ∙ drop-drop second.count first.count before;
}

-- The same with more bytes after those that waited.
gone_before : (before mid more : List ℕ) → HaveGone before mid → HaveGone (before ++ more) (mid ++ more)
gone_before before mid more first = record {
  count = first.count;
  some = omega (arith, length-append before more, first.some);
  others_wait = ap (λ l. l ++ more) first.others_wait ∙ sym (drop-append-le first.count before more first.some);
}

-- Bytes went before a write took some.
pub taken_after : (before mid bytes : List ℕ) (answer : Result Put PortFault) (after : List ℕ)
    → HaveGone before mid → TakesInOrder mid bytes answer after → TakesInOrder before bytes answer after
taken_after before mid bytes (Ok (Took count)) after first second =
    gone_over (before ++ take count bytes) (mid ++ take count bytes) after
    (gone_before before mid (take count bytes) first) second
taken_after before mid bytes (Ok Later) after first second = gone_over before mid after first second
taken_after before mid bytes (Err fault) after first second = gone_over before mid after first second

-- Bytes went after a write took some.
pub taken_before : (before bytes : List ℕ) (answer : Result Put PortFault) (mid after : List ℕ)
    → TakesInOrder before bytes answer mid → HaveGone mid after → TakesInOrder before bytes answer after
taken_before before bytes (Ok (Took count)) mid after first second =
    gone_over (before ++ take count bytes) mid after first second
taken_before before bytes (Ok Later) mid after first second = gone_over before mid after first second
taken_before before bytes (Err fault) mid after first second = gone_over before mid after first second

-- A write that takes all of its bytes.
pub taken_all : (before bytes after : List ℕ) → after ≡ before ++ bytes
    → TakesInOrder before bytes (Ok (Took (length bytes))) after
taken_all before bytes after is =
    gone_none (before ++ take (length bytes) bytes) after
    (is ∙ ap (λ l. before ++ l) (sym (take_all (length bytes) bytes (omega arith))))
