use Rattle.std.proofs.Common.{◌≡◌, sym, ◌∙◌, subst, Some, None, Option}
use Rattle.std.specs.Prelude.{IfOk}
use Rattle.semantic_objects.specs.Environments.{Signature}
use Rattle.sml_modules.specs.Graphs.{signature_at, top_at, HasSignature, FindsSignature}
use Rattle.name_trails.specs.Trails.{last_entry}
use Rattle.module_scopes.proofs.Rows.{found_over, found_below, holds_last}
use Rattle.module_scopes.proofs.top.TopScope.find_signature.Goals as goal

pub returns-in-Some : goal.returns-in-Some
returns-in-Some c =
    let e : last_entry c.args.self.now.defined.signatures c.args.name.now ≡ Some c.in-Some.sig =
    sym c.defined_signature.ensures ∙ c.in-Some.is in (
      holds_last (HasSignature c.args.g.now) c.args.self.now.defined.signatures c.args.name.now c.in-Some.sig
          c.requires.defined.signatures e,
      found_over (signature_at c.args.g.now) c.args.self.now.defined.signatures (top_at c.args.g.now c.args.self.now.given).signatures
          c.args.name.now c.in-Some.sig e,
    )

pub returns-in-None : goal.returns-in-None
returns-in-None c =
    let e : last_entry c.args.self.now.defined.signatures c.args.name.now ≡ None =
    sym c.defined_signature.ensures ∙ c.in-None.is in
    subst (λ (o : Option Signature). IfOk c.find_signature.result (FindsSignature c.args.g.now o))
    (sym (found_below (signature_at c.args.g.now) c.args.self.now.defined.signatures
    (top_at c.args.g.now c.args.self.now.given).signatures c.args.name.now e)) c.find_signature.ensures
