use Rattle.std.proofs.Common.{sym, ◌∙◌, ◌++◌, ◌∷◌, []}
use Rattle.interface_reading.specs.Remaining.{Holds, Advances, with_open}
use Rattle.interface_reading.specs.declared.open.Open.{Open}
use Rattle.interface_reading.proofs.Advancing.{need_taken, need_back}
use Rattle.interface_reading.proofs.reading.advance.Goals as goal

pub close-requires-clause-holds : goal.close-requires-clause-holds
close-requires-clause-holds c =
    need_taken (λ (o : Open). Holds (with_open c.args.state.now o)) c.args.top c.pop.new.self
    (c.in-None.ensures.0 ∙ sym c.in-None.ensures.1) c.requires

pub returns-in-None : goal.returns-in-None
returns-in-None c =
    need_back (λ (o : Open). Advances c.close.result (with_open c.args.state.now o) c.close.new.state
    c.args.reader.now c.args.reader.now) c.args.top c.pop.new.self (c.in-None.ensures.0 ∙ sym c.in-None.ensures.1)
    (c.close.ensures c.args.reader.now)

pub step-requires : goal.step-requires
step-requires c =
    need_taken (λ (o : Open). Holds (with_open c.args.state.now o)) c.args.top (c.pop.new.self ++ c.in-Some.need ∷ [])
    c.in-Some.ensures c.requires

pub returns-in-Some : goal.returns-in-Some
returns-in-Some c =
    need_back (λ (o : Open). Advances c.step.result (with_open c.args.state.now o) c.step.new.state c.args.reader.now
    c.step.new.reader) c.args.top (c.pop.new.self ++ c.in-Some.need ∷ []) c.in-Some.ensures c.step.ensures
