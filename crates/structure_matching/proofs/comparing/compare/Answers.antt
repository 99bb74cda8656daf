use Rattle.std.proofs.Common.{subst, sym}
use Rattle.type_nodes.specs.Tables.{state, type_of}
use Rattle.type_schemes.specs.Schemes.{HaveAll}
use Rattle.type_phrases.proofs.Keeping.{all_nothing}
use Rattle.structure_matching.proofs.Apart.{are_two, made_one, made_apart}
use Rattle.structure_matching.proofs.comparing.compare.Goals as goal

pub apply-requires : goal.apply-requires
apply-requires c = subst (HaveAll c.args.t.now) (sym c.new-none.ensures) (all_nothing c.args.t.now)

pub apply-requires-2 : goal.apply-requires-2
apply-requires-2 c = subst (HaveAll c.apply.new.self) (sym c.new-none.ensures) (all_nothing c.apply.new.self)

pub returns-in-Ok-clause-same : goal.returns-in-Ok-clause-same
returns-in-Ok-clause-same c =
    let left = c.args.left.now in
    let right = c.args.right.now in
    let t = c.apply-2.new.self in
    let two = are_two c.args.t.now c.apply.new.self t c.new-none.result c.in_ok-this.this c.in_ok-that.that left.body
    right.body c.new-none.ensures c.in_ok-this.ensures.made c.in_ok-this.ensures.has c.in_ok-that.ensures.made
    c.in_ok-that.ensures.extends c.is_kept.ensures c.requires.left c.requires.right in
    made_one (state t) (state c.unify.new.self) left.body right.body (type_of t c.in_ok-this.this) (type_of t c.in_ok-that.that) two
    c.in-Ok.ensures.general

pub returns-in-Err-Clash-clause-same : goal.returns-in-Err-Clash-clause-same
returns-in-Err-Clash-clause-same c =
    let left = c.args.left.now in
    let right = c.args.right.now in
    let t = c.apply-2.new.self in
    let two = are_two c.args.t.now c.apply.new.self t c.new-none.result c.in_ok-this.this c.in_ok-that.that left.body
    right.body c.new-none.ensures c.in_ok-this.ensures.made c.in_ok-this.ensures.has c.in_ok-that.ensures.made
    c.in_ok-that.ensures.extends c.is_kept.ensures c.requires.left c.requires.right in
    made_apart (state t) left.body right.body (type_of t c.in_ok-this.this) (type_of t c.in_ok-that.that) two
    (rw c.in-Err-Clash.field-0-is at c.in-Err-Clash.ensures.general)

pub returns-in-Err-Circular-clause-same : goal.returns-in-Err-Circular-clause-same
returns-in-Err-Circular-clause-same c =
    let left = c.args.left.now in
    let right = c.args.right.now in
    let t = c.apply-2.new.self in
    let two = are_two c.args.t.now c.apply.new.self t c.new-none.result c.in_ok-this.this c.in_ok-that.that left.body
    right.body c.new-none.ensures c.in_ok-this.ensures.made c.in_ok-this.ensures.has c.in_ok-that.ensures.made
    c.in_ok-that.ensures.extends c.is_kept.ensures c.requires.left c.requires.right in
    made_apart (state t) left.body right.body (type_of t c.in_ok-this.this) (type_of t c.in_ok-that.that) two
    (rw c.in-Err-Circular.field-0-is at c.in-Err-Circular.ensures.general)

pub returns-in-Err-NotEquality-clause-same : goal.returns-in-Err-NotEquality-clause-same
returns-in-Err-NotEquality-clause-same c =
    let left = c.args.left.now in
    let right = c.args.right.now in
    let t = c.apply-2.new.self in
    let two = are_two c.args.t.now c.apply.new.self t c.new-none.result c.in_ok-this.this c.in_ok-that.that left.body
    right.body c.new-none.ensures c.in_ok-this.ensures.made c.in_ok-this.ensures.has c.in_ok-that.ensures.made
    c.in_ok-that.ensures.extends c.is_kept.ensures c.requires.left c.requires.right in
    made_apart (state t) left.body right.body (type_of t c.in_ok-this.this) (type_of t c.in_ok-that.that) two
    (rw c.in-Err-NotEquality.field-0-is at c.in-Err-NotEquality.ensures.general)
