use Rattle.std.proofs.Common.{◌∙◌, ◌+◌, Option, refl, sym, subst, arith, length, slice_index_or}
use Rattle.server_core.specs.declared.marks.BitRow.{BitRow}
use Rattle.server_core.specs.Marks.{Elsewhere, RoomBy}
use Rattle.server_core.proofs.RowLemmas.{Adds, adds-all, adds-set, adds-skip, item-there, keeps-none, no-action}
use Rattle.server_core.proofs.RowLemmas.{not-inside}
use Rattle.server_core.proofs.marks.requests.add.Goals as goal
use Rattle.server_core.proofs.marks.requests.add.Goals.{then-is_some+then-choice-rows, else-is_some}
use Rattle.server_core.proofs.marks.requests.add.Goals.{else-is_some-via-then-is_some+else-choice-rows}
use Rattle.server_core.proofs.marks.requests.add.Goals.{else-is_some-via-else-is_some}

pub loop-choice-init : goal.loop-choice-init
loop-choice-init c = record { kept = keeps-none (Elsewhere c.args.slot) c.args.rows.now; added = λ place within. refl }

pub set-requires : goal.set-requires
set-requires c =
    subst (λ (o : Option BitRow). RoomBy o c.args.slot)
    (item-there c.loop-choice.rows c.choice-item.result.station c.index-rows-choice.result c.if-choice-rows.true)
    (c.loop-choice.invariant.kept.rooms c.args.slot c.choice-item.result.station
    (c.requires c.choice-item.result.station))

pub loop-choice-preserved : goal.loop-choice-preserved
loop-choice-preserved c =
    elim c.if-is_some.branch [
      | then-is_some+then-choice-rows w ↦
          subst (Adds c.args.slot c.args.choices.now (c.loop-choice.choice-index + 1) c.args.rows.now) (sym w.rows-is)
          (adds-set c.args.slot c.args.choices.now c.loop-choice.choice-index c.args.rows.now c.loop-choice.rows
          c.choice-item.result _ c.loop-choice-test.true c.choice-item.is c.loop-choice.invariant
          (slice_index_or c.loop-choice.rows c.choice-item.result.station w.index-rows-choice.result) w.set.new.self
          (sym c.is_some.ensures ∙ w.if-is_some.true) w.if-choice-rows.true
          (item-there c.loop-choice.rows c.choice-item.result.station w.index-rows-choice.result w.if-choice-rows.true)
          w.set.ensures.here
          (record { bits = w.set.ensures.others; longer = omega (arith, w.set.ensures.room) }))
      | else-is_some w ↦
          subst (Adds c.args.slot c.args.choices.now (c.loop-choice.choice-index + 1) c.args.rows.now) (sym w.rows-is)
          (adds-skip c.args.slot c.args.choices.now c.loop-choice.choice-index c.args.rows.now c.loop-choice.rows
          c.choice-item.result _ c.loop-choice-test.true c.choice-item.is c.loop-choice.invariant
          (elim w.else-is_some.branch [
            | else-is_some-via-then-is_some+else-choice-rows v ↦
                λ place within. not-inside _ c.choice-item.result.station place
                (length c.loop-choice.rows) v.if-choice-rows.false within
            | else-is_some-via-else-is_some v ↦
                λ place within. no-action _ _ (sym c.is_some.ensures ∙ v.if-is_some.false)
          ]))
    ]

pub returns-clause-added : goal.returns-clause-added
returns-clause-added c =
    adds-all c.args.slot c.args.choices.now c.loop-choice.choice-index c.args.rows.now c.loop-choice.rows
    c.loop-choice-test.false c.loop-choice.invariant

pub returns-clause-kept : goal.returns-clause-kept
returns-clause-kept c = c.loop-choice.invariant.kept
