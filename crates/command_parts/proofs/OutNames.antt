-- The path that OUT means lies outside the store.
use Rattle.std.proofs.Common.{◌≡◌, refl, ℕ, List}
use Rattle.std.specs.Prelude.{Result, Ok, Err}
use Rattle.cm_base.specs.Diags.{◌>>=◌}
use Rattle.cm_base.specs.Files.{Files}
use Rattle.cm_base.specs.declared.diag.Diag.{Diag}
use Rattle.path_anchors.specs.Names.{Bindings, IsName, folder_path_of}
use Rattle.path_anchors.specs.Pathconfig.{AreBindings}
use Rattle.loading_laws.proofs.Outside.{anchors_bound, goes_by_names, names_outside}
use Rattle.project_loading.specs.Projects.{anchors_of, root_name}
use Rattle.command_parts.specs.Answers.{IsOutside}
use Rattle.command_parts.specs.Targets.{out_in, out_path, path_in}

out_named : (anchors : Bindings) (r : Result (List ℕ) Diag) → AreBindings anchors
    → ((name : List ℕ) → r ≡ Ok name → IsName anchors name)
    → IsOutside (path_in (r >>= λ name. Ok (folder_path_of anchors name)))
out_named anchors (Ok name) are names = (names_outside anchors name are (names name refl)).file
out_named anchors (Err diag) are names = tt

out_behind : (anchors : Bindings) (root : Result (List ℕ) Diag) (out : List ℕ) → AreBindings anchors
    → IsOutside (path_in (root >>= λ root_is. root_name anchors out >>= λ name. Ok (folder_path_of anchors name)))
out_behind anchors (Ok name) out are =
    out_named anchors (root_name anchors out) are ((goes_by_names anchors).root out)
out_behind anchors (Err diag) out are = tt

-- whatever the words, a target isn't a path of the store
pub out_outside : (files : Files) (root out : List ℕ) → IsOutside (path_in (out_in files root out))
out_outside files root out = by_anchors (anchors_of files) (anchors_bound files)
  where
    by_anchors : (r : Result Bindings Diag) → ((anchors : Bindings) → r ≡ Ok anchors → AreBindings anchors)
        → IsOutside (path_in (r >>= λ anchors. out_path anchors root out))
    by_anchors (Ok anchors) are = out_behind anchors (root_name anchors root) out (are anchors refl)
    by_anchors (Err diag) are = tt
