use Rattle.std.proofs.Common.{List, ap}
use Rattle.core_parser.specs.Cursors.{state, scoped}
use Rattle.core_parser.specs.declared.cursor.Scope.{Scope}
use Rattle.core_parser.proofs.CursorSteps.{mark_set}
use Rattle.core_parser.proofs.cursor.Cursor.keep_rest.Goals as goal

pub returns : goal.returns
returns c =
    let fs = c.args.self.now.fixities in
    let scopes = c.args.self.now.scopes.items in
    rw (c.len-kept.ensures, c.depth-last.ensures)
    (ap (λ (ss : List Scope). scoped fs ss (state c.args.self.now))
    (mark_set fs scopes c.index_mut.result.now c.requires (rw c.depth-last.ensures at c.index_mut.ensures.value)))
