use Rattle.std.proofs.Common.{◌≡◌, subst, Some, None}
use Rattle.semantic_objects.specs.Tables.{entry}
use Rattle.sml_modules.specs.Graphs.{signature_at, signature_of, FindsSignature}
use Rattle.sml_modules.specs.declared.parts.SigParts.{SigParts}
use Rattle.type_phrases.specs.Inferred.{progress}
use Rattle.module_scopes.specs.Tops.{top_seen}
use Rattle.signature_parts.proofs.Opening.{used_gives, used_refused}
use Rattle.signature_parts.proofs.named.use_signature.Goals as goal

pub open_signature-requires : goal.open_signature-requires
open_signature-requires c =
    let there : FindsSignature c.args.g.now
    (entry c.args.name.now.text (top_seen c.args.g.now c.args.top.now).signatures) (Some c.in-Some.sig) =
    subst (FindsSignature c.args.g.now (entry c.args.name.now.text (top_seen c.args.g.now c.args.top.now).signatures))
    c.in-Some.is c.in_ok-sig.ensures in
    there.0

pub returns-in_ok-open_signature-in-Some-clause-infers : goal.returns-in_ok-open_signature-in-Some-clause-infers
returns-in_ok-open_signature-in-Some-clause-infers c = λ inner t home.
    let there : FindsSignature c.args.g.now
    (entry c.args.name.now.text (top_seen c.args.g.now c.args.top.now).signatures) (Some c.in-Some.sig) =
    subst (FindsSignature c.args.g.now (entry c.args.name.now.text (top_seen c.args.g.now c.args.top.now).signatures))
    c.in-Some.is c.in_ok-sig.ensures in
    used_gives c.args.g.now c.open_signature.new.g t (top_seen c.args.g.now c.args.top.now).signatures inner
    c.args.name.now (signature_at c.args.g.now c.in-Some.sig) c.in_ok-open_signature-in-Some.field-0 home there.1
    c.in_ok-open_signature-in-Some.ensures.ok

pub returns-in-None-clause-infers : goal.returns-in-None-clause-infers
returns-in-None-clause-infers c = λ inner t home.
    let none : entry c.args.name.now.text (top_seen c.args.g.now c.args.top.now).signatures ≡ None =
    subst (FindsSignature c.args.g.now (entry c.args.name.now.text (top_seen c.args.g.now c.args.top.now).signatures))
    c.in-None.is c.in_ok-sig.ensures in
    used_refused c.args.g.now (progress t c.args.g.now) (top_seen c.args.g.now c.args.top.now).signatures inner
    c.args.name.now (λ (parts : SigParts). (signature_of c.args.g.now parts, progress t c.args.g.now))
    c.unknown_name.result home none c.unknown_name.ensures
