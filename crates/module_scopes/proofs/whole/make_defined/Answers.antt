use Rattle.std.proofs.Common.{◌≡◌, ◌∙◌, ap, refl, []}
use Rattle.semantic_objects.specs.Tables.{with_all}
use Rattle.sml_modules.specs.declared.id.SigId.{SigId}
use Rattle.sml_modules.specs.declared.id.FunId.{FunId}
use Rattle.sml_modules.specs.Graphs.{Graph, Keeps}
use Rattle.name_trails.specs.Trails.{Rows}
use Rattle.module_scopes.specs.Places.{sig_places, fun_places}
use Rattle.module_scopes.proofs.Listing.{defined_tables, defined_given, itself_kept, still_kept, on_err}
use Rattle.module_scopes.proofs.whole.make_defined.Goals as goal

pub add-requires : goal.add-requires
add-requires c = defined_tables c.args.g.now c.structures_made.new.g c.args.defined.now
    (record {
      env = c.in_ok-env.env.place;
      signatures = c.in_ok-signatures.signatures;
      functors = c.in_ok-functors.functors;
      funsigs = c.in_ok-funsigs.funsigs;
    })
    c.in_ok-env.env c.in_ok-env.ensures.ok c.requires refl
    (c.in_ok-signatures.ensures ∙ ap (λ (rows : Rows SigId). with_all (sig_places rows) []) c.rows.ensures)
    (c.in_ok-functors.ensures ∙ ap (λ (rows : Rows FunId). with_all (fun_places rows) []) c.rows-2.ensures)
    (c.in_ok-funsigs.ensures ∙ ap (λ (rows : Rows FunId). with_all (fun_places rows) []) c.rows-3.ensures)

pub returns-clause-ok : goal.returns-clause-ok
returns-clause-ok c = defined_given c.args.g.now c.structures_made.new.g c.args.defined.now
    (record {
      env = c.in_ok-env.env.place;
      signatures = c.in_ok-signatures.signatures;
      functors = c.in_ok-functors.functors;
      funsigs = c.in_ok-funsigs.funsigs;
    })
    c.in_ok-env.env c.in_ok-env.ensures.ok c.requires refl
    (c.in_ok-signatures.ensures ∙ ap (λ (rows : Rows SigId). with_all (sig_places rows) []) c.rows.ensures)
    (c.in_ok-functors.ensures ∙ ap (λ (rows : Rows FunId). with_all (fun_places rows) []) c.rows-2.ensures)
    (c.in_ok-funsigs.ensures ∙ ap (λ (rows : Rows FunId). with_all (fun_places rows) []) c.rows-3.ensures)
    c.add.new.self (record { place = c.in_ok-place.place }) c.in_ok-place.ensures.ok

pub returns-in_err-signatures-clause-kept : goal.returns-in_err-signatures-clause-kept
returns-in_err-signatures-clause-kept c =
    on_err (Keeps c.args.g.now c.args.g.now) c.from_residual.result (itself_kept c.args.g.now)

pub returns-in_err-functors-clause-kept : goal.returns-in_err-functors-clause-kept
returns-in_err-functors-clause-kept c =
    on_err (Keeps c.args.g.now c.args.g.now) c.from_residual-in_err-functors.result (itself_kept c.args.g.now)

pub returns-in_err-funsigs-clause-kept : goal.returns-in_err-funsigs-clause-kept
returns-in_err-funsigs-clause-kept c =
    on_err (Keeps c.args.g.now c.args.g.now) c.from_residual-in_err-funsigs.result (itself_kept c.args.g.now)

pub returns-in_err-env-clause-kept : goal.returns-in_err-env-clause-kept
returns-in_err-env-clause-kept c =
    on_err (Keeps c.args.g.now c.structures_made.new.g) c.from_residual-in_err-env.result
    (still_kept c.args.g.now c.args.g.now c.structures_made.new.g (itself_kept c.args.g.now) c.in_err-env.ensures.err)

pub returns-in_err-env-clause-home : goal.returns-in_err-env-clause-home
returns-in_err-env-clause-home c =
    on_err (c.structures_made.new.g.home ≡ c.args.g.now.home) c.from_residual-in_err-env.result
    (ap (λ (g : Graph). g.home) c.in_err-env.ensures.err)

pub returns-in_err-place-clause-kept : goal.returns-in_err-place-clause-kept
returns-in_err-place-clause-kept c =
    on_err (Keeps c.args.g.now c.add.new.self) c.from_residual-in_err-place.result
    (still_kept c.args.g.now c.structures_made.new.g c.add.new.self c.in_ok-env.ensures.ok.keeps c.in_err-place.ensures.err)

pub returns-in_err-place-clause-home : goal.returns-in_err-place-clause-home
returns-in_err-place-clause-home c =
    on_err (c.add.new.self.home ≡ c.args.g.now.home) c.from_residual-in_err-place.result
    (ap (λ (g : Graph). g.home) c.in_err-place.ensures.err ∙ c.in_ok-env.ensures.ok.home)
