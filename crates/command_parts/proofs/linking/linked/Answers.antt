use Rattle.std.proofs.Common.{◌∙◌, sym, subst, refl, inl, inr}
use Rattle.cm_base.specs.Keeping.{Touches}
use Rattle.command_parts.specs.Answers.{WritesLinked}
use Rattle.command_parts.proofs.LinkLeaves.{link_is_well}
use Rattle.command_parts.proofs.TargetLeaves.{untouched}
use Rattle.command_parts.proofs.linking.linked.Goals as goal

pub returns-in_err-put_file-clause-touches : goal.returns-in_err-put_file-clause-touches
returns-in_err-put_file-clause-touches g c =
    let old = g.F.Folder.holds c.args.folder.now in
    let new = g.F.Folder.holds c.put_file.new.folder in
    inr (record {
      well = link_is_well c.args.built.now.units c.in_ok-file.file c.in_ok-file.ensures
          (sym c.is_too_long.ensures ∙ c.if-is_too_long.false);
      writes = subst (λ bytes. WritesLinked c.args.target.now bytes old new) c.in_ok-file.ensures (record {
        between = new;
        linked = subst (λ p. Touches old new p c.in_ok-file.file) c.in_ok-path.ensures c.put_file.ensures.touches;
        added = untouched c.args.target.now c.in_ok-file.file new;
        order = inl refl;
      });
    })
