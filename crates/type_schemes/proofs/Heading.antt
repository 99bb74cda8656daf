-- what variables come to
use Rattle.std.proofs.Common.{◌≡◌, ℕ, sym, ap, ◌∙◌, subst, Some, Option, cond, nat_eq}
use Rattle.std.proofs.lemmas.Bool.{eqb-true}
use Rattle.indexmap.specs.IndexMap.{get}
use Rattle.semantic_objects.specs.declared.name.TyId.{TyId}
use Rattle.semantic_objects.specs.declared.name.TyId.TheVariants as id
use Rattle.unification.proofs.Putting.{either_way}
use Rattle.type_nodes.specs.Tables.{Table, whole}
use Rattle.type_schemes.specs.declared.heads.Heads.{Heads}
use Rattle.type_schemes.specs.Heads.{AreHeads, IsHeadOf}

-- ids that stand for one type come to the same
pub head_through : (t : Table) (a b head : TyId) → IsHeadOf t a head → whole t a ≡ whole t b → IsHeadOf t b head
head_through t a b head h e = record { has = h.has; whole = h.whole ∙ e; end = h.end }

one : {A : Type 0} (x y : A) → Some x ≡ Some y → x ≡ y
one x y h = cc

-- one variable more is known
more_known : (t : Table) (v n : ℕ) (head other : TyId) (before : Option TyId) → IsHeadOf t (id.Variable v) head
    → cond (nat_eq v n) (Some head) before ≡ Some other → (before ≡ Some other → IsHeadOf t (id.Variable n) other)
    → IsHeadOf t (id.Variable n) other
more_known t v n head other before h e f = either_way (nat_eq v n)
    (λ k. subst (IsHeadOf t (id.Variable n)) (one head other (sym (ap (λ b. cond b (Some head) before) k) ∙ e))
    (subst (λ z. IsHeadOf t (id.Variable z) head) (eqb-true v n k) h))
    (λ k. f (sym (ap (λ b. cond b (Some head) before) k) ∙ e))

pub heads_more : (t : Table) (v : ℕ) (head : TyId) (old new : Heads) → AreHeads t old → IsHeadOf t (id.Variable v) head
    → ((n : ℕ) → get nat_eq new.heads n ≡ cond (nat_eq v n) (Some head) (get nat_eq old.heads n)) → AreHeads t new
heads_more t v head old new h k set = record {
  each = λ n other e. more_known t v n head other (get nat_eq old.heads n) k (sym (set n) ∙ e) (h.each n other);
}
