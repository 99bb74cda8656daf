use Rattle.std.proofs.Common.{◌≡◌, ◌++◌, ◌∷◌, [], ◌∙◌, ap, sym, subst}
use Rattle.indexmap.proofs.CallerLemmas.{insert_entry-new}
use Rattle.path_anchors.specs.Names.{bound_to}
use Rattle.path_anchors.specs.Tables.{Adds, AddsFronts, AreTables}
use Rattle.path_anchors.proofs.TableLemmas.{tables-more}
use Rattle.path_anchors.proofs.anchors.Anchors.with_bound.Goals as goal

pub invariant_of-result : goal.invariant_of-result
invariant_of-result c =
    let anchors = c.self.inside.table.entries in
    let directories = c.self.inside.directories in
    let fronts = c.self.inside.fronts in
    let now : c.insert.new.self.entries ≡ anchors ++ (c.args.anchor, c.args.directory) ∷ [] =
    c.in_ok-insert.ensures.entries
    ∙ insert_entry-new _ c.self.inside.table c.args.anchor c.args.directory
    (ap (λ bound. bound_to bound c.args.anchor) c.self.view_is ∙ c.requires) in
    subst (λ bound. AreTables bound c.add.new.self c.add_fronts.new.self) (sym now)
    (tables-more anchors directories fronts c.add.new.self c.add_fronts.new.self (c.args.anchor, c.args.directory)
    c.self.invariant
    (subst (Adds directories c.add.new.self) c.as_bytes.ensures c.in_ok-add.ensures)
    (subst (AddsFronts fronts c.add_fronts.new.self) c.as_bytes-2.ensures c.in_ok-add_fronts.ensures))

pub returns : goal.returns
returns c =
    c.in_ok-insert.ensures.entries
    ∙ insert_entry-new _ c.self.inside.table c.args.anchor c.args.directory
    (ap (λ bound. bound_to bound c.args.anchor) c.self.view_is ∙ c.requires)
    ∙ ap (λ bound. bound ++ (c.args.anchor, c.args.directory) ∷ []) c.self.view_is
