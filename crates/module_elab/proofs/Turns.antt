-- Tops that are modified one after another, and steps of inference that are taken together.
use Rattle.std.proofs.Common.{◌≡◌, ℕ, List, [], refl, sym, ap, ap₂, ◌∙◌}
use Rattle.std.specs.Prelude.{Ok, Err, Some, None}
use Rattle.semantic_objects.specs.Tables.{Table as Named, IsTable, with_all}
use Rattle.semantic_objects.specs.Environments.{Env, Signature, Functor, Top, modified_by, empty_top}
use Rattle.core_scopes.proofs.Tables.{all_at_once}
use Rattle.static_semantics.specs.Inferring.{Answer, ◌>>=◌}
use Rattle.static_semantics.specs.Holding.{Given}
use Rattle.unit_semantics.specs.UnitInference.{top_with}
use Rattle.table_laws.specs.Rising.{RisingTop}
use Rattle.specification_laws.proofs.Joined.{in_turn, with_nothing}

-- two steps and what follows
pub regrouped : {A B C : Type 0} (R : C → Type 0) (m : Answer A) (n : A → Answer B) (k : B → Answer C)
    → Given R ((m >>= n) >>= k) → Given R (m >>= λ r. n r >>= k)
regrouped R None n k h = h
regrouped R (Some (Err d)) n k h = h
regrouped R (Some (Ok r)) n k h = h

pub top_is : (d e : Env) (s t : Named Signature) (f h : Named Functor) (k l : Named Functor) → d ≡ e → s ≡ t → f ≡ h
    → k ≡ l
    → (let a : Top = record { env = d; signatures = s; functors = f; funsigs = k } in a)
    ≡ (let b : Top = record { env = e; signatures = t; functors = h; funsigs = l } in b)
top_is d e s t f h k l p q r z = cc

-- one after another
pub tops_in_turn : (a b c : Top) → RisingTop a → RisingTop b → RisingTop c
    → top_with (top_with a b) c ≡ top_with a (top_with b c)
tops_in_turn a b c h k l = top_is _ _ _ _ _ _ _ _
    (in_turn a.env b.env c.env h.env k.env l.env)
    (sym (all_at_once c.signatures b.signatures a.signatures k.signatures.0))
    (sym (all_at_once c.functors b.functors a.functors k.functors.0))
    (sym (all_at_once c.funsigs b.funsigs a.funsigs k.funsigs.0))

pub after_nothing : (top : Top) → top_with top empty_top ≡ top
after_nothing top = top_is _ _ _ _ _ _ _ _ (with_nothing top.env) refl refl refl
