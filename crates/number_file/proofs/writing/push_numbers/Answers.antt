use Rattle.number_file.proofs.TextLemmas.{number-more}
use Rattle.number_file.proofs.writing.push_numbers.Goals as goal

pub loop-number-preserved : goal.loop-number-preserved
loop-number-preserved c =
    number-more c.args.text.now.items c.loop-number.text.items c.push_number.new.text.items c.args.numbers.now
    c.loop-number.number-index c.number-item.result c.loop-number-test.true c.number-item.is c.loop-number.invariant
    c.in_ok-push_number.ensures
