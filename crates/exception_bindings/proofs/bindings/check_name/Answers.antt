use Rattle.std.proofs.Common.{Some, None, refl}
use Rattle.exception_bindings.proofs.Binding.{name_free, name_taken, name_reserved}
use Rattle.exception_bindings.proofs.bindings.check_name.Goals as goal

pub returns-then-is_reserved_constructor : goal.returns-then-is_reserved_constructor
returns-then-is_reserved_constructor c = λ inner made home named.
    name_reserved c.args.g.now inner c.args.name.now made c.is_reserved_constructor.result c.refusal.result
    c.place_of.result c.new.result home c.is_reserved_constructor.ensures c.if-is_reserved_constructor.true
    c.place_of.ensures c.new.ensures c.refusal.ensures

pub returns-in-None : goal.returns-in-None
returns-in-None c = λ inner made home named.
    name_free inner c.args.name.now c.args.names.now made None c.is_reserved_constructor.result
    c.is_reserved_constructor.ensures c.if-is_reserved_constructor.false named c.in-None.ensures refl

pub returns-in-Some : goal.returns-in-Some
returns-in-Some c = λ inner made home named.
    name_taken c.args.g.now inner c.args.name.now c.args.names.now made (Some c.in-Some.field-0.now)
    c.in-Some.field-0.now c.is_reserved_constructor.result c.refusal-in-Some.result c.place_of-in-Some.result
    c.new-in-Some.result home c.is_reserved_constructor.ensures c.if-is_reserved_constructor.false named
    c.in-Some.ensures refl c.place_of-in-Some.ensures c.new-in-Some.ensures c.refusal-in-Some.ensures
