use Rattle.std.proofs.Common.{◌≡◌, sym, subst, ap, ◌∙◌, rules}
use Rattle.semantic_objects.specs.Symbols.{AreRising}
use Rattle.semantic_objects.specs.Tables.{names_of}
use Rattle.env_parts.proofs.Tabling.{rising_of}
use Rattle.env_parts.proofs.rows.Rows.names.Goals as goal

pub returns-clause-rising : goal.returns-clause-rising
returns-clause-rising c =
    let names : c.loop-name.names ≡ names_of c.args.self.now = search rules in
    subst AreRising (sym (names ∙ sym (ap names_of c.self.view_is)))
    (rising_of c.self.inside.places.entries c.keys-name-items.ensures.ordered)
