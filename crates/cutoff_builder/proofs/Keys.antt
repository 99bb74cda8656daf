-- The test of two lists of imports, item by item.
use Rattle.std.proofs.Common.{◌≡◌, ◌∙◌, sym, ap, subst, refl, ℕ, Bool, true, false, ◌&&◌, List, [], ◌∷◌, length, arith}
use Rattle.std.specs.Prelude.{IsTrue, ◌↔◌, not, MatchBool}
use Rattle.cm_base.specs.declared.record.Import.{Import}
use Rattle.cm_base.specs.declared.record.Options.{Options}
use Rattle.bin_formats.specs.declared.bin.Bin.{Bin}
use Rattle.build_laws.specs.Stale.{HasKey, same_import, same_imports, same_key}
use Rattle.build_laws.proofs.Fresh.{import_is, import_same, key_is, key_of}

-- a test that decides equality is this one
pub import_test : (a b : Import) (r : Bool) → (IsTrue r ↔ (a ≡ b)) → r ≡ same_import a b
import_test a b true test = sym (ap (same_import a) (sym (test.0 refl)) ∙ import_same a)
import_test a b false test = by_value (same_import a b) refl
  where
    by_value : (s : Bool) → same_import a b ≡ s → false ≡ s
    by_value false is = refl
    by_value true is = let holds = test.1 (import_is a b is) in cc

-- lists of other lengths differ
pub length_differs : (xs ys : List Import) → (length xs ≡ length ys → ⊥) → false ≡ same_imports xs ys
length_differs [] [] differ = absurd (differ refl)
length_differs [] (y ∷ ys) differ = refl
length_differs (x ∷ xs) [] differ = refl
length_differs (x ∷ xs) (y ∷ ys) differ =
    by_head (same_import x y) (length_differs xs ys (λ same. differ (omega (arith, same))))
  where
    by_head : (b : Bool) → false ≡ same_imports xs ys → false ≡ (b && same_imports xs ys)
    by_head true more = more
    by_head false more = refl

-- what the test of a key means
pub stale_means : (bin : Bin) (options : Options) (source : List ℕ) (imports : List Import) (r : Bool)
    → r ≡ not (same_key bin options source imports)
    → MatchBool r (HasKey bin options source imports → ⊥) (HasKey bin options source imports)
stale_means bin options source imports r is = by_key (same_key bin options source imports) refl is
  where
    by_key : (k : Bool) → same_key bin options source imports ≡ k → r ≡ not k
        → MatchBool r (HasKey bin options source imports → ⊥) (HasKey bin options source imports)
    by_key true key is = subst (λ b. MatchBool b (HasKey bin options source imports → ⊥) (HasKey bin options source imports)) (sym is)
        (key_is bin options source imports key)
    by_key false key is = subst (λ b. MatchBool b (HasKey bin options source imports → ⊥) (HasKey bin options source imports)) (sym is)
        (λ has. let bad = key_of bin options source imports has in cc)
