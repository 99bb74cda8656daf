-- What is written of a fair top is its interface.
use Rattle.std.proofs.Common.{◌≡◌, ℕ, ◌≤◌, ◌^◌, sym, ap, ◌∙◌, subst, arith, List, length}
use Rattle.std.specs.Prelude.{Result, Ok, Err, IfOk}
use Rattle.cm_base.specs.declared.fault.Fault.{Fault}
use Rattle.semantic_objects.specs.Environments.{Top}
use Rattle.sml_modules.specs.declared.id.TopId.{TopId}
use Rattle.sml_modules.specs.Graphs.{Graph, top_at, GivesTop}
use Rattle.realisation.specs.Canonical.{canonical}
use Rattle.interface_format.specs.Interfaces.{interface_bytes, IsInterface}
use Rattle.canonical_interfaces.specs.Fair.{IsFairTop}
use Rattle.canonical_interfaces.proofs.Written.{fair_tops_written}
use Rattle.env_pickle.specs.Writing.{WritesInterface}

-- the canonical form of a copy
pub canonical_copy : (graph entered copied made : Graph) (top id last : TopId) (home : List ℕ) → entered.home ≡ home
    → GivesTop entered copied (top_at graph top) id → GivesTop copied made (canonical copied.home (top_at copied id)) last
    → top_at made last ≡ canonical home (top_at graph top)
canonical_copy graph entered copied made top id last home e c m =
    m.stands ∙ ap (λ h. canonical h (top_at copied id)) (c.home ∙ e) ∙ ap (canonical home) c.stands

fair_text : (home text : List ℕ) (top : Top) → IsFairTop home top → text ≡ interface_bytes home (canonical home top)
    → length text ≤ 1048576 → IsInterface home text (canonical home top)
fair_text home text top f e l =
    let few : length text ≤ 2 ^ 32 = omega (arith, l) in
    subst (λ z. IsInterface home z (canonical home top)) (sym e)
    (fair_tops_written.written home top f (subst (λ (z : List ℕ). length z ≤ 2 ^ 32) e few))

pub fair_written : (home : List ℕ) (top : Top) (r : Result (List ℕ) Fault) → WritesInterface home (canonical home top) r
    → IsFairTop home top → IfOk r (λ text. IsInterface home text (canonical home top))
fair_written home top (Ok text) w f = fair_text home text top f w.0 w.1
fair_written home top (Err fault) w f = tt
