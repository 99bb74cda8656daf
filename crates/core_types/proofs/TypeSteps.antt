-- How types are read, a step at a time.
use Rattle.std.proofs.Common.{◌≡◌, ℕ, zero, suc, ◌-◌, ◌<◌, List, [], ◌∷◌, Option, Some, None, true, false, is_some, refl, ap, sym, ◌∙◌, drop, length, arith}
use Rattle.grammars.specs.Grammar.{Grammar, End, begins, head_or}
use Rattle.grammars.specs.Reading.{Out, chain, read}
use Rattle.grammars.proofs.Choices.{on_go, on_stop}
use Rattle.grammars.proofs.Complete.{goes}
use Rattle.grammars.proofs.Rounds.{many_go, many_end, fold_go, fold_end, not_longer}
use Rattle.sml_lexer.specs.declared.lexeme.Lexeme.{Lexeme}
use Rattle.sml_trees.specs.declared.name.At.{At}
use Rattle.sml_trees.specs.declared.name.LongName.{LongName}
use Rattle.sml_trees.specs.declared.full_ty.FullTy.{FullTy}
use Rattle.sml_trees.specs.declared.full_ty.FullTy.TheVariants as t
use Rattle.phrase_reading.specs.Words.{g, is, is_tycon, is_star, tycon, tycon_of, made, token, long_named}
use Rattle.phrase_reading.specs.Sized.{leaf, over, more, lower}
use Rattle.core_types.specs.Types.{TyLevel, ty, ty_level, level_of, no_level, starts_ty, ty_after, part_after, applied, apply, constructor, constructor_after, behind_first, applied_all, record_of, fields_of, tuple, tuple_of, starred, arrow, arrow_of}
use Rattle.sml_lexer.specs.declared.words.Word.TheVariants as w
use Rattle.phrase_reading.specs.declared.tall.Tall.{Tall}
use Rattle.phrase_reading.proofs.Steps.{on_true, lower_go, lower_deep, one_less, taken_shorter, taken_is}

-- ---- levels

level_some : (n : ℕ) → 0 < n → ty_level n ≡ level_of n (ty_level (n - 1))
unfolding ty_level
level_some zero h = absurd (omega arith)
level_some (suc m) h = let e : suc m - 1 ≡ m = omega arith in rw e refl

level_none : ty_level 0 ≡ no_level
unfolding ty_level
level_none = refl

pub ty_go : (n : ℕ) (x : Lexeme) (xs : List Lexeme) → head_or xs None ≡ Some x → starts_ty x ≡ true → 0 < n
    → read (ty n) xs ≡ read (ty_after n (ty_level (n - 1)) x) (drop 1 xs)
ty_go n x xs h starts low =
    ap (λ (l : TyLevel). read l.ty xs) (level_some n low)
    ∙ on_go starts_ty (ty_after n (ty_level (n - 1))) Grammar.refuse x xs h starts

pub ty_deep : (n : ℕ) (x : Lexeme) (xs : List Lexeme) → head_or xs None ≡ Some x → starts_ty x ≡ true → n ≡ 0
    → read (ty n) xs ≡ Out.out End.deep (drop 1 xs)
ty_deep zero x xs h starts none =
    ap (λ (l : TyLevel). read l.ty xs) level_none
    ∙ on_go starts_ty (λ _. Grammar.within false Grammar.refuse) Grammar.refuse x xs h starts
ty_deep (suc n) x xs h starts none = absurd (omega arith)

pub ty_refused : (n : ℕ) (xs : List Lexeme) → begins starts_ty (head_or xs None) ≡ false
    → read (ty n) xs ≡ Out.out End.refused xs
ty_refused zero xs h =
    ap (λ (l : TyLevel). read l.ty xs) level_none
    ∙ on_stop starts_ty (λ _. Grammar.within false Grammar.refuse) Grammar.refuse xs h
ty_refused (suc n) xs h =
    ap (λ (l : TyLevel). read l.ty xs) (level_some (suc n) (omega arith))
    ∙ on_stop starts_ty (ty_after (suc n) (ty_level (suc n - 1))) Grammar.refuse xs h

pub part_go : (n : ℕ) (x : Lexeme) (xs : List Lexeme) → head_or xs None ≡ Some x → starts_ty x ≡ true → 0 < n
    → read (ty_level n).part xs ≡ read (part_after n (ty (n - 1)) x) (drop 1 xs)
part_go n x xs h starts low =
    ap (λ (l : TyLevel). read l.part xs) (level_some n low)
    ∙ on_go starts_ty (part_after n (ty (n - 1))) Grammar.refuse x xs h starts

pub part_deep : (n : ℕ) (x : Lexeme) (xs : List Lexeme) → head_or xs None ≡ Some x → starts_ty x ≡ true → n ≡ 0
    → read (ty_level n).part xs ≡ Out.out End.deep (drop 1 xs)
part_deep zero x xs h starts none =
    ap (λ (l : TyLevel). read l.part xs) level_none
    ∙ on_go starts_ty (λ _. Grammar.within false Grammar.refuse) Grammar.refuse x xs h starts
part_deep (suc n) x xs h starts none = absurd (omega arith)

pub part_refused : (n : ℕ) (xs : List Lexeme) → begins starts_ty (head_or xs None) ≡ false
    → read (ty_level n).part xs ≡ Out.out End.refused xs
part_refused zero xs h =
    ap (λ (l : TyLevel). read l.part xs) level_none
    ∙ on_stop starts_ty (λ _. Grammar.within false Grammar.refuse) Grammar.refuse xs h
part_refused (suc n) xs h =
    ap (λ (l : TyLevel). read l.part xs) (level_some (suc n) (omega arith))
    ∙ on_stop starts_ty (part_after (suc n) (ty (suc n - 1))) Grammar.refuse xs h

pub ruleset ty_steps = (ty_go, ty_deep, ty_refused)

pub ruleset part_steps = (part_go, part_deep, part_refused)

-- ---- brackets

-- the closing parenthesis behind one type
abbrev closed_first : At → Tall FullTy → g (Tall FullTy)
closed_first place first =
    Grammar.bind (token w.Close) (λ _. Grammar.pure (over (λ (ty : FullTy). t.Paren ty place) first))

pub behind_first_go : (ty : g (Tall FullTy)) (place : At) (first : Tall FullTy) (xs : List Lexeme)
    → begins (is w.Comma) (head_or xs None) ≡ true
    → read (behind_first ty place first) xs ≡ read (applied_all ty place first) (drop 1 xs)
unfolding behind_first
behind_first_go ty place first xs h = on_true (is w.Comma) (applied_all ty place first) (closed_first place first) xs h

pub behind_first_end : (ty : g (Tall FullTy)) (place : At) (first : Tall FullTy) (xs : List Lexeme)
    → begins (is w.Comma) (head_or xs None) ≡ false
    → read (behind_first ty place first) xs
    ≡ chain (read (token w.Close) xs) (λ _ rest. Out.out (End.whole (over (λ (ty : FullTy). t.Paren ty place) first)) rest)
unfolding behind_first
behind_first_end ty place first xs h =
    on_stop (is w.Comma) (λ _. applied_all ty place first) (closed_first place first) xs h

pub ruleset behind_first_steps = (behind_first_go, behind_first_end)

pub record_go : (ty : g (Tall FullTy)) (place : At) (xs : List Lexeme)
    → begins (is w.CloseBrace) (head_or xs None) ≡ true
    → read (record_of ty place) xs ≡ Out.out (End.whole (leaf (t.Record [] place))) (drop 1 xs)
unfolding record_of
record_go ty place xs h =
    on_true (is w.CloseBrace) (Grammar.pure (leaf (t.Record [] place))) (fields_of ty place) xs h

pub record_end : (ty : g (Tall FullTy)) (place : At) (xs : List Lexeme)
    → begins (is w.CloseBrace) (head_or xs None) ≡ false
    → read (record_of ty place) xs ≡ read (fields_of ty place) xs
unfolding record_of
record_end ty place xs h =
    on_stop (is w.CloseBrace) (λ _. Grammar.pure (leaf (t.Record [] place))) (fields_of ty place) xs h

pub ruleset record_steps = (record_go, record_end)

-- ---- type constructors behind their argument

pub constructor_deep : (levels : ℕ) (place : At) (left : Tall FullTy) (xs : List Lexeme)
    → begins is_tycon (head_or xs None) ≡ true → left.height ≡ levels
    → read (constructor levels place left) xs ≡ Out.out End.deep (drop 1 xs)
unfolding constructor
constructor_deep levels place left [] h high = absurd (cc)
constructor_deep levels place left (x ∷ xs) h high =
    goes (is_tycon x) _ _ h
    ∙ lower_deep levels left (made (λ parts. apply place left (long_named x parts)) (tycon_of x)) xs high

made_by : (place : At) (left : Tall FullTy) (x : Lexeme) (xs : List Lexeme) (found : Option (List (List ℕ)))
    → tycon_of x ≡ found → is_some found ≡ true
    → read (made (λ parts. apply place left (long_named x parts)) found) xs
    ≡ chain (read tycon (x ∷ xs)) (λ long rest. Out.out (End.whole (apply place left long)) rest)
made_by place left x xs None h some = absurd (cc)
made_by place left x xs (Some parts) h some =
    sym (ap (λ (o : Out Lexeme LongName). chain o (λ long rest. Out.out (End.whole (apply place left long)) rest))
    (taken_is tycon_of long_named x parts xs h))

pub constructor_go : (levels : ℕ) (place : At) (left : Tall FullTy) (xs : List Lexeme)
    → begins is_tycon (head_or xs None) ≡ true → left.height < levels
    → read (constructor levels place left) xs
    ≡ chain (read tycon xs) (λ long rest. Out.out (End.whole (apply place left long)) rest)
unfolding constructor
constructor_go levels place left [] h low = absurd (cc)
constructor_go levels place left (x ∷ xs) h low =
    goes (is_tycon x) _ _ h
    ∙ lower_go levels left (made (λ parts. apply place left (long_named x parts)) (tycon_of x)) xs low
    ∙ made_by place left x xs (tycon_of x) refl h

-- a type constructor that was read is a lexeme less
pub tycon_shorter : (long : LongName) (xs rest : List Lexeme) → read tycon xs ≡ Out.out (End.whole long) rest
    → length rest < length xs
tycon_shorter long xs rest h = taken_shorter tycon_of long_named long xs rest h

pub ruleset constructor_steps = (constructor_go, constructor_deep, tycon_shorter)

pub applied_go : (levels : ℕ) (place : At) (left : Tall FullTy) (xs : List Lexeme)
    → begins is_tycon (head_or xs None) ≡ true
    → read (applied levels place left) xs
    ≡ chain (read (constructor levels place left) xs) (λ made rest. read (applied levels place made) rest)
unfolding constructor applied
applied_go levels place left [] h = absurd (cc)
applied_go levels place left (x ∷ xs) h =
    many_go (λ _ x. is_tycon x) (constructor_after levels place) left x xs h
    ∙ sym (ap (λ (o : Out Lexeme (Tall FullTy)). chain o (λ made rest. read (applied levels place made) rest))
    (goes (is_tycon x) (read (constructor_after levels place left x) xs) (Out.out End.refused (x ∷ xs)) h))

pub applied_end : (levels : ℕ) (place : At) (left : Tall FullTy) (xs : List Lexeme)
    → begins is_tycon (head_or xs None) ≡ false → read (applied levels place left) xs ≡ Out.out (End.whole left) xs
unfolding applied
applied_end levels place left xs h = many_end (λ _ x. is_tycon x) (constructor_after levels place) left xs h

pub ruleset applied_steps = (applied_go, applied_end)

-- ---- tuples and arrows

pub tuple_go : (levels : ℕ) (part : g (Tall FullTy)) (place : At) (first : Tall FullTy) (xs : List Lexeme)
    → begins is_star (head_or xs None) ≡ true → first.height < levels
    → read (tuple levels part place first) xs ≡ read (tuple_of part place first) (drop 1 xs)
unfolding tuple
tuple_go levels part place first xs h low =
    on_true is_star (lower levels first (tuple_of part place first)) (Grammar.pure first) xs h
    ∙ lower_go levels first (tuple_of part place first) (drop 1 xs) low

pub tuple_deep : (levels : ℕ) (part : g (Tall FullTy)) (place : At) (first : Tall FullTy) (xs : List Lexeme)
    → begins is_star (head_or xs None) ≡ true → first.height ≡ levels
    → read (tuple levels part place first) xs ≡ Out.out End.deep (drop 1 xs)
unfolding tuple
tuple_deep levels part place first xs h high =
    on_true is_star (lower levels first (tuple_of part place first)) (Grammar.pure first) xs h
    ∙ lower_deep levels first (tuple_of part place first) (drop 1 xs) high

pub tuple_end : (levels : ℕ) (part : g (Tall FullTy)) (place : At) (first : Tall FullTy) (xs : List Lexeme)
    → begins is_star (head_or xs None) ≡ false
    → read (tuple levels part place first) xs ≡ Out.out (End.whole first) xs
unfolding tuple
tuple_end levels part place first xs h =
    on_stop is_star (λ _. lower levels first (tuple_of part place first)) (Grammar.pure first) xs h

pub ruleset tuple_steps = (tuple_go, tuple_deep, tuple_end)

pub starred_go : (part : g (Tall FullTy)) (found : Tall (List FullTy)) (xs : List Lexeme)
    → begins is_star (head_or xs None) ≡ true
    → read (starred part found) xs ≡ chain (read part (drop 1 xs)) (λ next rest. read (starred part (more found next)) rest)
unfolding starred
starred_go part found [] h = absurd (cc)
starred_go part found (x ∷ xs) h = fold_go is_star (λ _. part) more found x xs h

pub starred_end : (part : g (Tall FullTy)) (found : Tall (List FullTy)) (xs : List Lexeme)
    → begins is_star (head_or xs None) ≡ false → read (starred part found) xs ≡ Out.out (End.whole found) xs
unfolding starred
starred_end part found xs h = fold_end is_star (λ _. part) more found xs h

pub ruleset starred_steps = (starred_go, starred_end, not_longer, one_less)

pub arrow_go : (levels : ℕ) (ty : g (Tall FullTy)) (place : At) (left : Tall FullTy) (xs : List Lexeme)
    → begins (is w.Arrow) (head_or xs None) ≡ true → left.height < levels
    → read (arrow levels ty place left) xs ≡ read (arrow_of ty place left) (drop 1 xs)
unfolding arrow
arrow_go levels ty place left xs h low =
    on_true (is w.Arrow) (lower levels left (arrow_of ty place left)) (Grammar.pure left) xs h
    ∙ lower_go levels left (arrow_of ty place left) (drop 1 xs) low

pub arrow_deep : (levels : ℕ) (ty : g (Tall FullTy)) (place : At) (left : Tall FullTy) (xs : List Lexeme)
    → begins (is w.Arrow) (head_or xs None) ≡ true → left.height ≡ levels
    → read (arrow levels ty place left) xs ≡ Out.out End.deep (drop 1 xs)
unfolding arrow
arrow_deep levels ty place left xs h high =
    on_true (is w.Arrow) (lower levels left (arrow_of ty place left)) (Grammar.pure left) xs h
    ∙ lower_deep levels left (arrow_of ty place left) (drop 1 xs) high

pub arrow_end : (levels : ℕ) (ty : g (Tall FullTy)) (place : At) (left : Tall FullTy) (xs : List Lexeme)
    → begins (is w.Arrow) (head_or xs None) ≡ false
    → read (arrow levels ty place left) xs ≡ Out.out (End.whole left) xs
unfolding arrow
arrow_end levels ty place left xs h =
    on_stop (is w.Arrow) (λ _. lower levels left (arrow_of ty place left)) (Grammar.pure left) xs h

pub ruleset arrow_steps = (arrow_go, arrow_deep, arrow_end)
