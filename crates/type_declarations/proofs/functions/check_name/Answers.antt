use Rattle.std.proofs.Common.{Some, None, refl}
use Rattle.type_declarations.proofs.Binding.{name_free, name_taken}
use Rattle.type_declarations.proofs.functions.check_name.Goals as goal

pub returns-in-None : goal.returns-in-None
returns-in-None c = λ inner made home named.
    name_free inner c.args.name.now c.args.names.now made None named c.in-None.ensures refl

pub returns-in-Some : goal.returns-in-Some
returns-in-Some c = λ inner made home named.
    name_taken c.args.g.now inner c.args.name.now c.args.names.now made (Some c.in-Some.field-0.now)
    c.in-Some.field-0.now c.refusal.result c.place_of.result c.new.result home named c.in-Some.ensures refl
    c.place_of.ensures c.new.ensures c.refusal.ensures
