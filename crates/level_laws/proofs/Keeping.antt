-- What holds of the value of each phrase of a grammar, form by form, and what heights are of trees that are put
-- together.
use Rattle.std.proofs.Common.{◌≡◌, ℕ, suc, ◌+◌, max, List, [], ◌∷◌, ◌++◌, Option, Some, None, Bool, true, false, map, nat_lt, ◌<◌, ◌≤◌, refl, sym, ap, ap₂, ◌∙◌, arith, rules, add-one}
use Rattle.std.proofs.lemmas.List.{map-append}
use Rattle.grammars.specs.Grammar.{Grammar}
use Rattle.grammars.specs.Laws.{Gives}
use Rattle.grammars.proofs.Values.{gives_pure, gives_refuse, gives_bind, gives_on, gives_within, gives_many}
use Rattle.sml_lexer.specs.declared.lexeme.Lexeme.{Lexeme}
use Rattle.phrase_reading.specs.Names.{either, if_mark, if_marked, if_taken}
use Rattle.phrase_reading.specs.Sized.{leaf, over, over_two, part, one, more, further, maybe}
use Rattle.phrase_reading.specs.Words.{g, made, taken}
use Rattle.phrase_reading.specs.declared.tall.Tall.{Tall}
use Rattle.sml_lexer.specs.declared.words.Word.{Word}
use Rattle.tree_heights.specs.Heights.{highest}
use Rattle.tree_heights.proofs.Highest.{alone, highest_with-append, highest_with-is}
use Rattle.level_laws.specs.Levels.{all_levels, if_levels}
use Rattle.core_bindings.specs.Decs.{Decs, declares, with_dec, plain}
use Rattle.infix_names.specs.Fixities.{Fixities}
use Rattle.level_laws.specs.Promises.{IsMeasured, AreMeasured}

-- ---- grammars

-- each phrase of the grammar has a value of which this holds
pub record Keeps {A : Type 0} (grammar : g A) (P : A → Type 0) : Type 0 where
  pub gives : Gives grammar P

pub keep_pure : {A : Type 0} {P : A → Type 0} (a : A) → P a → Keeps (Grammar.pure a) P
keep_pure {A} {P} a p = record { gives = gives_pure a P p }

pub keep_refuse : {A : Type 0} {P : A → Type 0} → Keeps (Grammar.refuse {A = A}) P
keep_refuse {A} {P} = record { gives = gives_refuse P }

pub keep_bind : {A B : Type 0} {grammar : g A} {k : A → g B} {P : A → Type 0} {Q : B → Type 0} → Keeps grammar P
    → ((a : A) → P a → Keeps (k a) Q) → Keeps (Grammar.bind grammar k) Q
keep_bind {A} {B} {grammar} {k} {P} {Q} first next =
    record { gives = gives_bind grammar k P Q first.gives (λ a p. (next a p).gives) }

-- behind a part of which nothing is asked
pub keep_then : {A B : Type 0} {grammar : g A} {k : A → g B} {Q : B → Type 0} → ((a : A) → Keeps (k a) Q)
    → Keeps (Grammar.bind grammar k) Q
keep_then {A} {B} {grammar} {k} {Q} next =
    record { gives = gives_bind grammar k (λ _. Unit {0}) Q (λ xs after a h. tt) (λ a _. (next a).gives) }

pub keep_on : {A : Type 0} {t : Lexeme → Bool} {go : Lexeme → g A} {or : g A} {P : A → Type 0}
    → ((x : Lexeme) → Keeps (go x) P) → Keeps or P → Keeps (Grammar.on t go or) P
keep_on {A} {t} {go} {or} {P} first second = record { gives = gives_on t go or P (λ x _. (first x).gives) second.gives }

pub keep_within : {A : Type 0} {ok : Bool} {grammar : g A} {P : A → Type 0} → (ok ≡ true → Keeps grammar P)
    → Keeps (Grammar.within ok grammar) P
keep_within {A} {ok} {grammar} {P} some = record { gives = gives_within ok grammar P (λ h. (some h).gives) }

pub keep_many : {A : Type 0} {t : A → Lexeme → Bool} {step : A → Lexeme → g A} {P : A → Type 0}
    → ((a : A) (x : Lexeme) → P a → Keeps (step a x) P) → (a : A) → P a → Keeps (Grammar.many t step a) P
keep_many {A} {t} {step} {P} lasts a p =
    record { gives = gives_many t step P (λ a x p _. (lasts a x p).gives) a p }

pub keep_weak : {A : Type 0} {grammar : g A} {P Q : A → Type 0} → Keeps grammar P → ((a : A) → P a → Q a)
    → Keeps grammar Q
keep_weak first weak = record { gives = λ xs after a h. weak a (first.gives xs after a h) }

-- nothing is allowed where no level is left
pub keep_none : {A : Type 0} {grammar : g A} {P : A → Type 0} → Keeps (Grammar.within false grammar) P
keep_none = keep_within (λ h. absurd (cc))

-- a lexeme of which something is known
pub keep_made : {A B : Type 0} (make : A → B) {P : B → Type 0} → ((a : A) → P (make a)) → (found : Option A)
    → Keeps (made make found) P
keep_made make each None = keep_refuse
keep_made make each (Some found) = keep_pure (make found) (each found)

pub keep_taken : {A B : Type 0} (what : Lexeme → Option A) (make : Lexeme → A → B) {P : B → Type 0}
    → ((x : Lexeme) (a : A) → P (make x a)) → Keeps (taken what make) P
unfolding taken
keep_taken what make each = keep_on (λ x. keep_made (make x) (each x) (what x)) keep_refuse

-- what goes on from such a lexeme, or else another way
pub keep_if_taken : {A B C : Type 0} (what : Lexeme → Option A) (make : Lexeme → A → B) {go : B → g C} {or : g C}
    {P : C → Type 0} → ((b : B) → Keeps (go b) P) → Keeps or P → Keeps (if_taken what make go or) P
unfolding if_taken
keep_if_taken what make each second = keep_on (λ x. keep_then each) second

pub keep_if_mark : {A : Type 0} (mark : Word) {go or : g A} {P : A → Type 0} → Keeps go P → Keeps or P
    → Keeps (if_mark mark go or) P
unfolding if_mark
keep_if_mark mark first second = keep_on (λ _. first) second

pub keep_if_marked : {A : Type 0} (mark : Word) {go : Lexeme → g A} {or : g A} {P : A → Type 0}
    → ((x : Lexeme) → Keeps (go x) P) → Keeps or P → Keeps (if_marked mark go or) P
unfolding if_marked
keep_if_marked mark first second = keep_on first second

-- one of two, by a test
pub keep_either : {A : Type 0} (test : Bool) {go or : g A} {P : A → Type 0} → (test ≡ true → Keeps go P) → Keeps or P
    → Keeps (either test go or) P
keep_either true first second = first refl
keep_either false first second = second

-- ---- heights

-- one level
pub leaf_is : {A : Type 0} {levels : A → ℕ} {most : ℕ} (tree : A) → levels tree ≡ 1
    → IsMeasured levels (suc most) (leaf tree)
leaf_is tree is = record { exact = sym is; low = omega arith }

-- one level above another tree
pub over_is : {A B : Type 0} {levels : A → ℕ} {above : B → ℕ} {most : ℕ} (wrap : A → B)
    → ((tree : A) → above (wrap tree) ≡ suc (levels tree)) → {made : Tall A} → IsMeasured levels most made
    → IsMeasured above (suc most) (over wrap made)
over_is {A} {B} {levels} {above} {most} wrap higher {made} is = record {
  exact = add-one made.height ∙ ap suc is.exact ∙ sym (higher made.tree);
  low = let low = is.low in omega arith;
}

-- .. above the higher of two
pub over_two_is : {A B C : Type 0} {first : A → ℕ} {second : B → ℕ} {above : C → ℕ} {most : ℕ} (wrap : A → B → C)
    → ((a : A) (b : B) → above (wrap a b) ≡ suc (max (first a) (second b))) → {left : Tall A} {right : Tall B}
    → IsMeasured first most left → IsMeasured second most right → IsMeasured above (suc most) (over_two wrap left right)
over_two_is wrap higher {left} {right} is other = record {
  exact = add-one (max left.height right.height) ∙ ap₂ (λ a b. suc (max a b)) is.exact other.exact
      ∙ sym (higher left.tree right.tree);
  low = let low = is.low in let lower = other.low in omega arith;
}

-- of the same levels
pub part_is : {A B : Type 0} {levels : A → ℕ} {same : B → ℕ} {most : ℕ} (wrap : A → B)
    → ((tree : A) → same (wrap tree) ≡ levels tree) → {made : Tall A} → IsMeasured levels most made
    → IsMeasured same most (part wrap made)
part_is wrap equal {made} is = record { exact = is.exact ∙ sym (equal made.tree); low = is.low }

pub below_limit : {height most : ℕ} → nat_lt height (suc most) ≡ true → height ≤ most
below_limit {height} {most} room = let below : height < suc most = search rules in omega arith

-- what a limit allows to become a part
pub lowered : {A : Type 0} {levels : A → ℕ} {most : ℕ} {made : Tall A} → IsMeasured levels (suc most) made
    → nat_lt made.height (suc most) ≡ true → IsMeasured levels most made
lowered {A} {levels} {most} {made} is room = record {
  exact = is.exact;
  low = below_limit room;
}

-- what is within a limit is within a wider one
pub raised : {A : Type 0} {levels : A → ℕ} {most : ℕ} {made : Tall A} → IsMeasured levels most made
    → IsMeasured levels (suc most) made
raised is = record { exact = is.exact; low = let low = is.low in omega arith }

-- ---- lists

pub one_is : {A : Type 0} {levels : A → ℕ} {most : ℕ} {first : Tall A} → IsMeasured levels most first
    → IsMeasured (all_levels levels) most (one first)
one_is {A} {levels} {most} {first} is = record { exact = is.exact ∙ sym (alone (levels first.tree)); low = is.low }

-- the highest of some and one more
pub all-more : {A : Type 0} (levels : A → ℕ) (trees : List A) (tree : A)
    → all_levels levels (trees ++ tree ∷ []) ≡ max (all_levels levels trees) (levels tree)
all-more levels trees tree =
    ap highest (map-append levels trees (tree ∷ [])) ∙ highest_with-append 0 (map levels trees) (levels tree ∷ [])

pub more_is : {A : Type 0} {levels : A → ℕ} {most : ℕ} {found : Tall (List A)} {next : Tall A}
    → IsMeasured (all_levels levels) most found → IsMeasured levels most next
    → IsMeasured (all_levels levels) most (more found next)
more_is {A} {levels} {most} {found} {next} is other = record {
  exact = ap₂ max is.exact other.exact ∙ sym (all-more levels found.tree next.tree);
  low = let low = is.low in let lower = other.low in omega arith;
}

-- further parts behind their marks
pub further_keeps : {A : Type 0} {levels : A → ℕ} {most : ℕ} (mark : Word) {each : g (Tall A)} {found : Tall (List A)}
    → Keeps each (IsMeasured levels most) → IsMeasured (all_levels levels) most found
    → Keeps (further mark each found) (IsMeasured (all_levels levels) most)
unfolding further
further_keeps {A} {levels} {most} mark {each} {found} every is =
    keep_many (λ found x so. keep_bind every (λ next it. keep_pure (more found next) (more_is so it))) found is

-- the highest of one
pub all-one : {A : Type 0} (levels : A → ℕ) (tree : A) → all_levels levels (tree ∷ []) ≡ levels tree
all-one levels tree = alone (levels tree)

-- two parts, neither of which is a level above the other
pub two_is : {A B C : Type 0} {first : A → ℕ} {second : B → ℕ} {both : C → ℕ} {most : ℕ} {tree : C}
    {left : Tall A} {right : Tall B} → both tree ≡ max (first left.tree) (second right.tree)
    → IsMeasured first most left → IsMeasured second most right
    → IsMeasured both most (record { tree = tree; height = max left.height right.height })
two_is {A} {B} {C} {first} {second} {both} {most} {tree} {left} {right} equal is other = record {
  exact = ap₂ max is.exact other.exact ∙ sym equal;
  low = let low = is.low in let lower = other.low in omega arith;
}

-- a part that may be absent
pub maybe_keeps : {A : Type 0} {levels : A → ℕ} {most : ℕ} (mark : Word) {each : g (Tall A)}
    → Keeps each (IsMeasured levels most) → Keeps (maybe mark each) (IsMeasured (if_levels levels) most)
unfolding maybe
maybe_keeps {A} mark every =
    keep_on (λ _. keep_bind every (λ found is. keep_pure _ (part_is (λ (tree : A). Some tree) (λ tree. refl) is)))
    (keep_pure _ (record { exact = refl; low = omega arith }))

-- ---- declarations

-- the highest of some and of others
pub all-append : {A : Type 0} (levels : A → ℕ) (xs ys : List A)
    → all_levels levels (xs ++ ys) ≡ max (all_levels levels xs) (all_levels levels ys)
all-append levels xs ys =
    ap highest (map-append levels xs ys) ∙ highest_with-append 0 (map levels xs) (map levels ys)
    ∙ highest_with-is (all_levels levels xs) (map levels ys)

-- nothing yet
pub none_is : {A : Type 0} {levels : A → ℕ} {most : ℕ}
    → IsMeasured (all_levels levels) most (record { tree = []; height = 0 })
none_is = record { exact = refl; low = omega arith }

-- one declaration
pub declares_is : {A : Type 0} {levels : A → ℕ} {most : ℕ} {made : Tall A} (fs : Fixities) → IsMeasured levels most made
    → AreMeasured levels most (declares made fs)
declares_is {A} {levels} {most} {made} fs is = record {
  exact = is.exact ∙ sym (all-one levels made.tree);
  low = is.low;
}

-- .. and more
pub with_dec_is : {A : Type 0} {levels : A → ℕ} {most : ℕ} {found next : Decs A} → AreMeasured levels most found
    → AreMeasured levels most next → AreMeasured levels most (with_dec found next)
with_dec_is {A} {levels} {most} {found} {next} are more = record {
  exact = ap₂ max are.exact more.exact ∙ sym (all-append levels found.decs next.decs);
  low = let low = are.low in let lower = more.low in omega arith;
}

pub plain_keeps : {A : Type 0} {levels : A → ℕ} {most : ℕ} {grammar : g (Tall A)} (fs : Fixities)
    → Keeps grammar (IsMeasured levels most) → Keeps (plain fs grammar) (AreMeasured levels most)
unfolding plain
plain_keeps fs each = keep_bind each (λ found is. keep_pure _ (declares_is fs is))
