use Rattle.type_phrases.proofs.Keeping.{keeps_extended}
use Rattle.core_rules.proofs.Parted.{record_made}
use Rattle.core_rules.proofs.forms.make_record.Goals as goal

pub returns : goal.returns
returns c =
    rw c.sized.ensures.table
    (record_made c.args.at c.args.rows.now c.in_ok-id.id c.in_ok-id.ensures.made c.in_ok-id.ensures.state
    (keeps_extended c.args.t.now c.record_of.new.t c.in_ok-id.ensures.extends) c.in_ok-id.ensures.has
    c.sized.ensures.answer c.sized.ensures.same)
