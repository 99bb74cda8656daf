-- The path of the description of the initial basis is refused where its anchor isn't bound, and only there.
use Rattle.std.proofs.Common.{◌≡◌, ◌∙◌, ap₂, sym, refl, List, [], ℕ, Bool, true, false, Result, Ok, Err, if◌then◌else◌}
use Rattle.std.specs.Prelude.{codes, is_some, not}
use Rattle.path_anchors.specs.Names.{Bindings, bound_to, resolved}
use Rattle.project_loading.specs.Projects.{basis_anchor}

turned : (b : Bool) (name : List ℕ) → ◌≡◌ {A = Result (List ℕ) ℕ} (if not b then Err 5 else Ok name)
    (if b then Ok name else Err 5)
turned true name = refl
turned false name = refl

pub basis_resolved : (anchors : Bindings) → resolved anchors [] (codes "$basis.cm/basis.cm")
    ≡ (if is_some (bound_to anchors basis_anchor) then Ok (codes "$basis.cm/basis.cm") else Err 5)
unfolding basis_anchor
basis_resolved anchors = turned (is_some (bound_to anchors (codes "basis.cm"))) (codes "$basis.cm/basis.cm")

bound_by : (b : Bool) (path name : List ℕ)
    → ◌≡◌ {A = Result (List ℕ) ℕ} (if b then Ok path else Err 5) (Ok name) → true ≡ b
bound_by true path name is = refl
bound_by false path name is = absurd (cc)

unbound_by : (b : Bool) (path : List ℕ) (number : ℕ)
    → ◌≡◌ {A = Result (List ℕ) ℕ} (if b then Ok path else Err 5) (Err number) → false ≡ b
unbound_by true path number is = absurd (cc)
unbound_by false path number is = refl

module _ (anchors : Bindings) (base written : List ℕ) (top : base ≡ []) (path : written ≡ codes "$basis.cm/basis.cm") where
  pub is_bound : (name : List ℕ) → resolved anchors base written ≡ Ok name
      → true ≡ is_some (bound_to anchors basis_anchor)
  is_bound name is =
      bound_by (is_some (bound_to anchors basis_anchor)) (codes "$basis.cm/basis.cm") name
      (sym (basis_resolved anchors) ∙ sym (ap₂ (λ (b w : List ℕ). resolved anchors b w) top path) ∙ is)

  pub is_unbound : (number : ℕ) → resolved anchors base written ≡ Err number
      → false ≡ is_some (bound_to anchors basis_anchor)
  is_unbound number is =
      unbound_by (is_some (bound_to anchors basis_anchor)) (codes "$basis.cm/basis.cm") number
      (sym (basis_resolved anchors) ∙ sym (ap₂ (λ (b w : List ℕ). resolved anchors b w) top path) ∙ is)
