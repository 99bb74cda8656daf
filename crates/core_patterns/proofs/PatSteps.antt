-- How patterns are read, a step at a time.
use Rattle.std.proofs.Common.{◌≡◌, ℕ, zero, suc, ◌-◌, ◌<◌, List, [], ◌∷◌, Option, Some, None, Bool, true, false, is_some, nat_lt, refl, ap, sym, ◌∙◌, drop, arith}
use Rattle.std.proofs.lemmas.Bool.{lt-ltb}
use Rattle.std.proofs.lemmas.Bool.Decides.{nat_tests}
use Rattle.grammars.specs.Grammar.{Grammar, End, begins, head_or}
use Rattle.grammars.specs.Reading.{Out, chain, read}
use Rattle.grammars.proofs.Choices.{on_go, on_stop}
use Rattle.grammars.proofs.Complete.{goes, stops}
use Rattle.grammars.proofs.Rounds.{many_go, many_end, not_longer}
use Rattle.sml_lexer.specs.declared.lexeme.Lexeme.{Lexeme}
use Rattle.sml_trees.specs.declared.name.At.{At}
use Rattle.sml_trees.specs.declared.name.Name.{Name}
use Rattle.sml_trees.specs.declared.full_ty.FullTy.{FullTy}
use Rattle.sml_trees.specs.declared.full_ty.OpName.{OpName}
use Rattle.sml_trees.specs.declared.full_ty.OpLong.{OpLong}
use Rattle.sml_trees.specs.declared.full_pat.Fixity.{Fixity}
use Rattle.sml_trees.specs.declared.full_pat.FullPat.{FullPat}
use Rattle.sml_trees.specs.declared.full_pat.FullPat.TheVariants as p
use Rattle.phrase_reading.specs.Words.{g, is, token, at, and_then, given}
use Rattle.core_patterns.specs.Patterns.{operator}
use Rattle.infix_names.specs.Fixities.{Fixities, joining}
use Rattle.phrase_reading.specs.Sized.{leaf, over, part, lower, maybe}
use Rattle.core_types.specs.Types.{ty}
use Rattle.core_patterns.specs.Patterns.{PatLevel, pat, atpat, plain, pat_level, level_of, no_level, starts_atpat, pat_after, pat_behind, atpat_after, start, goes_on, run_step, run_part, run_on, run_of, run_from, run_rest, by_operator, operand_behind, operand_joined, behind_operand, alone, layered, layer, no_type, some_type, typed_id, behind_id, behind_name, behind_typed, leaf_id, id_under, typed, constrained, constraint, in_parens, inside_parens, behind_first, tuple_of, in_brackets, items_of, record_of, fields_of, field_behind, labelled, named_field, if_name}
use Rattle.sml_lexer.specs.declared.words.Word.{Word}
use Rattle.sml_lexer.specs.declared.words.Word.TheVariants as w
use Rattle.phrase_reading.specs.declared.tall.Tall.{Tall}
use Rattle.phrase_reading.specs.declared.lexemes.Label.{Label}
use Rattle.core_patterns.specs.declared.operand.Operand.{Operand}
use Rattle.core_patterns.specs.declared.operand.Run.{Run}
use Rattle.phrase_reading.proofs.Steps.{on_true, lower_go, lower_deep, one_less}

-- ---- levels

pub level_some : (fs : Fixities) (n : ℕ) → 0 < n → pat_level fs n ≡ level_of fs n (ty (n - 1)) (pat_level fs (n - 1))
unfolding pat_level
level_some fs zero h = absurd (omega arith)
level_some fs (suc m) h = let e : suc m - 1 ≡ m = omega arith in rw e refl

level_none : (fs : Fixities) → pat_level fs 0 ≡ no_level fs
unfolding pat_level
level_none fs = refl

pub pat_go : (fs : Fixities) (n : ℕ) (x : Lexeme) (xs : List Lexeme) → head_or xs None ≡ Some x
    → starts_atpat fs x ≡ true → 0 < n
    → read (pat fs n) xs ≡ read (pat_after fs n (ty (n - 1)) (pat_level fs (n - 1)) x) (drop 1 xs)
pat_go fs n x xs h starts low =
    ap (λ (l : PatLevel). read l.pat xs) (level_some fs n low)
    ∙ on_go (starts_atpat fs) (pat_after fs n (ty (n - 1)) (pat_level fs (n - 1))) Grammar.refuse x xs h starts

pub pat_deep : (fs : Fixities) (n : ℕ) (x : Lexeme) (xs : List Lexeme) → head_or xs None ≡ Some x
    → starts_atpat fs x ≡ true → n ≡ 0 → read (pat fs n) xs ≡ Out.out End.deep (drop 1 xs)
pat_deep fs zero x xs h starts none =
    ap (λ (l : PatLevel). read l.pat xs) (level_none fs)
    ∙ on_go (starts_atpat fs) (λ _. Grammar.within false Grammar.refuse) Grammar.refuse x xs h starts
pat_deep fs (suc n) x xs h starts none = absurd (omega arith)

pub pat_refused : (fs : Fixities) (n : ℕ) (xs : List Lexeme) → begins (starts_atpat fs) (head_or xs None) ≡ false
    → read (pat fs n) xs ≡ Out.out End.refused xs
pat_refused fs zero xs h =
    ap (λ (l : PatLevel). read l.pat xs) (level_none fs)
    ∙ on_stop (starts_atpat fs) (λ _. Grammar.within false Grammar.refuse) Grammar.refuse xs h
pat_refused fs (suc n) xs h =
    ap (λ (l : PatLevel). read l.pat xs) (level_some fs (suc n) (omega arith))
    ∙ on_stop (starts_atpat fs) (pat_after fs (suc n) (ty (suc n - 1)) (pat_level fs (suc n - 1))) Grammar.refuse xs h

pub ruleset pat_steps = (pat_go, pat_deep, pat_refused)

pub pat_behind_go : (fs : Fixities) (n : ℕ) (x : Lexeme) (xs : List Lexeme) → 0 < n
    → read (pat_behind fs n x) xs ≡ read (pat_after fs n (ty (n - 1)) (pat_level fs (n - 1)) x) xs
unfolding pat_behind
pat_behind_go fs n x xs h = goes (nat_lt 0 n) _ _ (lt-ltb 0 n h)

pub pat_behind_deep : (fs : Fixities) (n : ℕ) (x : Lexeme) (xs : List Lexeme) → n ≡ 0
    → read (pat_behind fs n x) xs ≡ Out.out End.deep xs
unfolding pat_behind
pat_behind_deep fs zero x xs h = refl
pat_behind_deep fs (suc n) x xs h = absurd (omega arith)

pub ruleset pat_behind_steps = (pat_behind_go, pat_behind_deep)

pub operand_go : (fs : Fixities) (n : ℕ) (x : Lexeme) (xs : List Lexeme) → 0 < n
    → read ((pat_level fs n).atpat x) xs ≡ read (atpat_after (ty (n - 1)) (pat fs (n - 1)) x) xs
operand_go fs n x xs low = ap (λ (l : PatLevel). read (l.atpat x) xs) (level_some fs n low)

pub operand_deep : (fs : Fixities) (n : ℕ) (x : Lexeme) (xs : List Lexeme) → n ≡ 0
    → read ((pat_level fs n).atpat x) xs ≡ Out.out End.deep xs
operand_deep fs zero x xs none = ap (λ (l : PatLevel). read (l.atpat x) xs) (level_none fs)
operand_deep fs (suc n) x xs none = absurd (omega arith)

pub ruleset operand_steps = (operand_go, operand_deep)

-- ---- brackets

pub in_parens_go : (pat : g (Tall FullPat)) (place : At) (xs : List Lexeme) → begins (is w.Close) (head_or xs None) ≡ true
    → read (in_parens pat place) xs ≡ Out.out (End.whole (leaf (p.Unit place))) (drop 1 xs)
unfolding in_parens
in_parens_go pat place xs h = on_true (is w.Close) (Grammar.pure (leaf (p.Unit place))) (inside_parens pat place) xs h

pub in_parens_end : (pat : g (Tall FullPat)) (place : At) (xs : List Lexeme) → begins (is w.Close) (head_or xs None) ≡ false
    → read (in_parens pat place) xs ≡ read (inside_parens pat place) xs
unfolding in_parens
in_parens_end pat place xs h = on_stop (is w.Close) (λ _. Grammar.pure (leaf (p.Unit place))) (inside_parens pat place) xs h

pub ruleset in_parens_steps = (in_parens_go, in_parens_end)

pub behind_first_go : (pat : g (Tall FullPat)) (place : At) (first : Tall FullPat) (xs : List Lexeme) → begins (is w.Comma) (head_or xs None) ≡ true
    → read (behind_first pat place first) xs ≡ read (tuple_of pat place first) (drop 1 xs)
unfolding behind_first
behind_first_go pat place first xs h = on_true (is w.Comma) (tuple_of pat place first) (Grammar.bind (token w.Close) (λ _. Grammar.pure (over (λ (inner : FullPat). p.Paren inner place) first))) xs h

pub behind_first_end : (pat : g (Tall FullPat)) (place : At) (first : Tall FullPat) (xs : List Lexeme) → begins (is w.Comma) (head_or xs None) ≡ false
    → read (behind_first pat place first) xs ≡ chain (read (token w.Close) xs)
    (λ _ rest. Out.out (End.whole (over (λ (inner : FullPat). p.Paren inner place) first)) rest)
unfolding behind_first
behind_first_end pat place first xs h = on_stop (is w.Comma) (λ _. tuple_of pat place first) (Grammar.bind (token w.Close) (λ _. Grammar.pure (over (λ (inner : FullPat). p.Paren inner place) first))) xs h

pub ruleset behind_first_steps = (behind_first_go, behind_first_end)

pub in_brackets_go : (pat : g (Tall FullPat)) (place : At) (xs : List Lexeme) → begins (is w.CloseBracket) (head_or xs None) ≡ true
    → read (in_brackets pat place) xs ≡ Out.out (End.whole (leaf (p.List [] place))) (drop 1 xs)
unfolding in_brackets
in_brackets_go pat place xs h = on_true (is w.CloseBracket) (Grammar.pure (leaf (p.List [] place))) (items_of pat place) xs h

pub in_brackets_end : (pat : g (Tall FullPat)) (place : At) (xs : List Lexeme) → begins (is w.CloseBracket) (head_or xs None) ≡ false
    → read (in_brackets pat place) xs ≡ read (items_of pat place) xs
unfolding in_brackets
in_brackets_end pat place xs h = on_stop (is w.CloseBracket) (λ _. Grammar.pure (leaf (p.List [] place))) (items_of pat place) xs h

pub ruleset in_brackets_steps = (in_brackets_go, in_brackets_end)

pub record_of_go : (tys : g (Tall FullTy)) (pat : g (Tall FullPat)) (place : At) (xs : List Lexeme) → begins (is w.CloseBrace) (head_or xs None) ≡ true
    → read (record_of tys pat place) xs ≡ Out.out (End.whole (leaf (p.Record [] place))) (drop 1 xs)
unfolding record_of
record_of_go tys pat place xs h = on_true (is w.CloseBrace) (Grammar.pure (leaf (p.Record [] place))) (fields_of tys pat place) xs h

pub record_of_end : (tys : g (Tall FullTy)) (pat : g (Tall FullPat)) (place : At) (xs : List Lexeme) → begins (is w.CloseBrace) (head_or xs None) ≡ false
    → read (record_of tys pat place) xs ≡ read (fields_of tys pat place) xs
unfolding record_of
record_of_end tys pat place xs h = on_stop (is w.CloseBrace) (λ _. Grammar.pure (leaf (p.Record [] place))) (fields_of tys pat place) xs h

pub ruleset pat_record_steps = (record_of_go, record_of_end)

pub field_behind_go : (tys : g (Tall FullTy)) (pat : g (Tall FullPat)) (label : Label) (xs : List Lexeme) → begins (is w.Equals) (head_or xs None) ≡ true
    → read (field_behind tys pat label) xs ≡ read (labelled pat label.name) (drop 1 xs)
unfolding field_behind
field_behind_go tys pat label xs h = on_true (is w.Equals) (labelled pat label.name) (if_name label.is_name (named_field tys pat label.name)) xs h

pub field_behind_end : (tys : g (Tall FullTy)) (pat : g (Tall FullPat)) (label : Label) (xs : List Lexeme) → begins (is w.Equals) (head_or xs None) ≡ false
    → read (field_behind tys pat label) xs ≡ read (if_name label.is_name (named_field tys pat label.name)) xs
unfolding field_behind
field_behind_end tys pat label xs h = on_stop (is w.Equals) (λ _. labelled pat label.name) (if_name label.is_name (named_field tys pat label.name)) xs h

pub ruleset field_behind_steps = (field_behind_go, field_behind_end)

-- ---- runs

-- a test that the next lexeme passes
test_of : (t : Lexeme → Bool) (x : Lexeme) (xs : List Lexeme) → head_or xs None ≡ Some x
    → begins t (head_or xs None) ≡ true → t x ≡ true
test_of t x xs h passes = sym (ap (begins t) h) ∙ passes

-- Behind an operator stands an operand.
pub operand_behind_go : (fs : Fixities) (below : PatLevel) (run : Run) (name : Name) (f : Fixity) (x : Lexeme)
    (xs : List Lexeme) → head_or xs None ≡ Some x → starts_atpat fs x ≡ true
    → read (operand_behind fs below run name f) xs ≡ read (operand_joined below run name f x) (drop 1 xs)
unfolding operand_behind
operand_behind_go fs below run name f x xs h starts =
    on_go (starts_atpat fs) (operand_joined below run name f) Grammar.refuse x xs h starts

pub operand_behind_end : (fs : Fixities) (below : PatLevel) (run : Run) (name : Name) (f : Fixity) (xs : List Lexeme)
    → begins (starts_atpat fs) (head_or xs None) ≡ false
    → read (operand_behind fs below run name f) xs ≡ Out.out End.refused xs
unfolding operand_behind
operand_behind_end fs below run name f xs h =
    on_stop (starts_atpat fs) (operand_joined below run name f) Grammar.refuse xs h

pub ruleset operand_behind_steps = (operand_behind_go, operand_behind_end)

pub run_part_go : (fs : Fixities) (levels : ℕ) (below : PatLevel) (run : Run) (x : Lexeme) (xs : List Lexeme) → head_or xs None ≡ Some x
    → begins (goes_on fs run) (head_or xs None) ≡ true → run.height < levels
    → read (run_part fs levels below run) xs
    ≡ read (by_operator fs below run x (joining (operator fs x) run.ops)) (drop 1 xs)
unfolding run_part
run_part_go fs levels below run x xs h going low =
    on_go (goes_on fs run) (run_step fs levels below run) Grammar.refuse x xs h (test_of (goes_on fs run) x xs h going)
    ∙ goes (nat_lt run.height levels) _ _ (lt-ltb run.height levels low)

pub run_part_deep : (fs : Fixities) (levels : ℕ) (below : PatLevel) (run : Run) (x : Lexeme) (xs : List Lexeme) → head_or xs None ≡ Some x
    → begins (goes_on fs run) (head_or xs None) ≡ true → run.height ≡ levels
    → read (run_part fs levels below run) xs ≡ Out.out End.deep (drop 1 xs)
unfolding run_part
run_part_deep fs levels below run x xs h going high =
    on_go (goes_on fs run) (run_step fs levels below run) Grammar.refuse x xs h (test_of (goes_on fs run) x xs h going)
    ∙ stops (nat_lt run.height levels) _ _ (grind (arith, nat_tests))

pub run_part_none : (fs : Fixities) (levels : ℕ) (below : PatLevel) (run : Run) (xs : List Lexeme) → head_or xs None ≡ None
    → read (run_part fs levels below run) xs ≡ Out.out End.refused xs
unfolding run_part
run_part_none fs levels below run [] h = refl
run_part_none fs levels below run (x ∷ xs) h = absurd (cc)

pub ruleset run_part_steps = (run_part_go, run_part_deep, run_part_none, not_longer, one_less)

pub run_on_go : (fs : Fixities) (levels : ℕ) (below : PatLevel) (run : Run) (xs : List Lexeme) → begins (goes_on fs run) (head_or xs None) ≡ true
    → read (run_on fs levels below run) xs
    ≡ chain (read (run_part fs levels below run) xs) (λ more rest. read (run_on fs levels below more) rest)
unfolding run_part run_on
run_on_go fs levels below run [] h = absurd (cc)
run_on_go fs levels below run (x ∷ xs) h =
    many_go (goes_on fs) (run_step fs levels below) run x xs h
    ∙ sym (ap (λ (o : Out Lexeme Run). chain o (λ more rest. read (run_on fs levels below more) rest))
    (goes (goes_on fs run x) (read (run_step fs levels below run x) xs) (Out.out End.refused (x ∷ xs)) h))

pub run_on_end : (fs : Fixities) (levels : ℕ) (below : PatLevel) (run : Run) (xs : List Lexeme) → begins (goes_on fs run) (head_or xs None) ≡ false
    → read (run_on fs levels below run) xs ≡ Out.out (End.whole run) xs
unfolding run_on
run_on_end fs levels below run xs h = many_end (goes_on fs) (run_step fs levels below) run xs h

pub ruleset run_on_steps = (run_on_go, run_on_end)

pub behind_operand_go : (fs : Fixities) (levels : ℕ) (tys : g (Tall FullTy)) (below : PatLevel) (place : At) (operand : Operand)
    (xs : List Lexeme) → begins (goes_on fs (start place operand)) (head_or xs None) ≡ true
    → read (behind_operand fs levels tys below place operand) xs
    ≡ read (run_of fs levels tys below place (start place operand)) xs
unfolding behind_operand run_of run_part
behind_operand_go fs levels tys below place operand [] h = absurd (cc)
behind_operand_go fs levels tys below place operand (x ∷ xs) h =
    let run = start place operand in
    goes (goes_on fs run x) (read (run_from fs levels tys below place run x) xs) (read (alone levels tys below place operand) (x ∷ xs)) h
    ∙ sym (ap (λ (o : Out Lexeme Run). chain o (λ more rest. read (run_rest fs levels tys below place more) rest))
    (goes (goes_on fs run x) (read (run_step fs levels below run x) xs) (Out.out End.refused (x ∷ xs)) h))

pub behind_operand_end : (fs : Fixities) (levels : ℕ) (tys : g (Tall FullTy)) (below : PatLevel) (place : At) (operand : Operand)
    (xs : List Lexeme) → begins (goes_on fs (start place operand)) (head_or xs None) ≡ false
    → read (behind_operand fs levels tys below place operand) xs ≡ read (alone levels tys below place operand) xs
unfolding behind_operand
behind_operand_end fs levels tys below place operand xs h =
    on_stop (goes_on fs (start place operand)) (run_from fs levels tys below place (start place operand))
    (alone levels tys below place operand) xs h

pub ruleset behind_operand_steps = (behind_operand_go, behind_operand_end)

-- ---- constraints and layers

pub constrained_go : (levels : ℕ) (tys : g (Tall FullTy)) (place : At) (left : Tall FullPat) (xs : List Lexeme)
    → left.height < levels → read (constrained levels tys place left) xs ≡ read (constraint tys place left) xs
unfolding constrained
constrained_go levels tys place left xs low = lower_go levels left (constraint tys place left) xs low

pub constrained_deep : (levels : ℕ) (tys : g (Tall FullTy)) (place : At) (left : Tall FullPat) (xs : List Lexeme)
    → left.height ≡ levels → read (constrained levels tys place left) xs ≡ Out.out End.deep xs
unfolding constrained
constrained_deep levels tys place left xs high = lower_deep levels left (constraint tys place left) xs high

pub ruleset constrained_steps = (constrained_go, constrained_deep)

pub typed_go : (levels : ℕ) (tys : g (Tall FullTy)) (place : At) (left : Tall FullPat) (xs : List Lexeme)
    → begins (is w.Colon) (head_or xs None) ≡ true
    → read (typed levels tys place left) xs
    ≡ chain (read (constrained levels tys place left) (drop 1 xs)) (λ made rest. read (typed levels tys place made) rest)
unfolding typed
typed_go levels tys place left [] h = absurd (cc)
typed_go levels tys place left (x ∷ xs) h =
    many_go (λ _ x. is w.Colon x) (λ left _. constrained levels tys place left) left x xs h

pub typed_end : (levels : ℕ) (tys : g (Tall FullTy)) (place : At) (left : Tall FullPat) (xs : List Lexeme)
    → begins (is w.Colon) (head_or xs None) ≡ false
    → read (typed levels tys place left) xs ≡ Out.out (End.whole left) xs
unfolding typed
typed_end levels tys place left xs h =
    many_end (λ _ x. is w.Colon x) (λ left _. constrained levels tys place left) left xs h

pub ruleset typed_steps = (typed_go, typed_end, not_longer, one_less)

layered_then : (pat : g (Tall FullPat)) (place : At) (id : OpLong) (ty : Tall (Option FullTy)) (or : g (Tall FullPat)) (name : OpName)
    (xs : List Lexeme) → and_then (layered id) (head_or xs None) ≡ Some name
    → read (Grammar.on (λ x. is_some (layered id x)) (λ x. given (λ name. layer pat place name ty) (layered id x)) or) xs
    ≡ read (layer pat place name ty) (drop 1 xs)
layered_then pat place id ty or name [] h = absurd (cc)
layered_then pat place id ty or name (x ∷ xs) h =
    goes (is_some (layered id x)) (read (given (λ name. layer pat place name ty) (layered id x)) xs) (read or (x ∷ xs)) (ap is_some h)
    ∙ ap (λ (found : Option OpName). read (given (λ name. layer pat place name ty) found) xs) h

layered_not : (pat : g (Tall FullPat)) (place : At) (id : OpLong) (ty : Tall (Option FullTy)) (or : g (Tall FullPat))
    (xs : List Lexeme) → and_then (layered id) (head_or xs None) ≡ None
    → read (Grammar.on (λ x. is_some (layered id x)) (λ x. given (λ name. layer pat place name ty) (layered id x)) or) xs
    ≡ read or xs
layered_not pat place id ty or [] h = refl
layered_not pat place id ty or (x ∷ xs) h =
    stops (is_some (layered id x)) (read (given (λ name. layer pat place name ty) (layered id x)) xs) (read or (x ∷ xs)) (ap is_some h)

pub behind_id_go : (levels : ℕ) (tys : g (Tall FullTy)) (below : PatLevel) (place : At) (id : OpLong) (name : OpName) (xs : List Lexeme)
    → and_then (layered id) (head_or xs None) ≡ Some name
    → read (behind_id levels tys below place id) xs ≡ read (layer below.pat place name no_type) (drop 1 xs)
unfolding behind_id
behind_id_go levels tys below place id name xs h =
    layered_then below.pat place id no_type (behind_name levels tys below place id) name xs h

pub behind_id_end : (levels : ℕ) (tys : g (Tall FullTy)) (below : PatLevel) (place : At) (id : OpLong) (xs : List Lexeme)
    → and_then (layered id) (head_or xs None) ≡ None
    → read (behind_id levels tys below place id) xs ≡ read (behind_name levels tys below place id) xs
unfolding behind_id
behind_id_end levels tys below place id xs h =
    layered_not below.pat place id no_type (behind_name levels tys below place id) xs h

pub ruleset behind_id_steps = (behind_id_go, behind_id_end)

pub behind_typed_go : (levels : ℕ) (tys : g (Tall FullTy)) (below : PatLevel) (place : At) (id : OpLong) (ty : Tall FullTy) (name : OpName)
    (xs : List Lexeme) → and_then (layered id) (head_or xs None) ≡ Some name
    → read (behind_typed levels tys below place id ty) xs ≡ read (layer below.pat place name (some_type ty)) (drop 1 xs)
unfolding behind_typed
behind_typed_go levels tys below place id ty name xs h =
    layered_then below.pat place id (some_type ty) (typed levels tys place (id_under place id ty)) name xs h

pub behind_typed_end : (levels : ℕ) (tys : g (Tall FullTy)) (below : PatLevel) (place : At) (id : OpLong) (ty : Tall FullTy)
    (xs : List Lexeme) → and_then (layered id) (head_or xs None) ≡ None
    → read (behind_typed levels tys below place id ty) xs ≡ read (typed levels tys place (id_under place id ty)) xs
unfolding behind_typed
behind_typed_end levels tys below place id ty xs h =
    layered_not below.pat place id (some_type ty) (typed levels tys place (id_under place id ty)) xs h

pub ruleset behind_typed_steps = (behind_typed_go, behind_typed_end)

pub behind_name_go : (levels : ℕ) (tys : g (Tall FullTy)) (below : PatLevel) (place : At) (id : OpLong) (xs : List Lexeme)
    → begins (is w.Colon) (head_or xs None) ≡ true → 1 < levels
    → read (behind_name levels tys below place id) xs ≡ read (typed_id levels tys below place id) (drop 1 xs)
unfolding behind_name
behind_name_go levels tys below place id xs h low =
    on_true (is w.Colon) (lower levels (leaf_id place id) (typed_id levels tys below place id)) (Grammar.pure (leaf_id place id)) xs h
    ∙ lower_go levels (leaf_id place id) (typed_id levels tys below place id) (drop 1 xs) low

pub behind_name_deep : (levels : ℕ) (tys : g (Tall FullTy)) (below : PatLevel) (place : At) (id : OpLong) (xs : List Lexeme)
    → begins (is w.Colon) (head_or xs None) ≡ true → 1 ≡ levels
    → read (behind_name levels tys below place id) xs ≡ Out.out End.deep (drop 1 xs)
unfolding behind_name
behind_name_deep levels tys below place id xs h high =
    on_true (is w.Colon) (lower levels (leaf_id place id) (typed_id levels tys below place id)) (Grammar.pure (leaf_id place id)) xs h
    ∙ lower_deep levels (leaf_id place id) (typed_id levels tys below place id) (drop 1 xs) high

pub behind_name_end : (levels : ℕ) (tys : g (Tall FullTy)) (below : PatLevel) (place : At) (id : OpLong) (xs : List Lexeme)
    → begins (is w.Colon) (head_or xs None) ≡ false
    → read (behind_name levels tys below place id) xs ≡ Out.out (End.whole (leaf_id place id)) xs
unfolding behind_name
behind_name_end levels tys below place id xs h =
    on_stop (is w.Colon) (λ _. lower levels (leaf_id place id) (typed_id levels tys below place id)) (Grammar.pure (leaf_id place id)) xs h

pub ruleset behind_name_steps = (behind_name_go, behind_name_deep, behind_name_end)

-- ---- parts that may be missing

pub maybe_go : {A : Type 0} (mark : Word) (each : g (Tall A)) (xs : List Lexeme) → begins (is mark) (head_or xs None) ≡ true
    → read (maybe mark each) xs
    ≡ chain (read each (drop 1 xs)) (λ found rest. Out.out (End.whole (part (λ (tree : A). Some tree) found)) rest)
unfolding maybe
maybe_go {A} mark each xs h =
    on_true (is mark) (Grammar.bind each (λ found. Grammar.pure (part (λ (tree : A). Some tree) found)))
    (Grammar.pure (record { tree = None; height = 0 })) xs h

pub maybe_end : {A : Type 0} (mark : Word) (each : g (Tall A)) (xs : List Lexeme) → begins (is mark) (head_or xs None) ≡ false
    → read (maybe mark each) xs ≡ Out.out (End.whole (record { tree = None; height = 0 })) xs
unfolding maybe
maybe_end {A} mark each xs h =
    on_stop (is mark) (λ _. Grammar.bind each (λ found. Grammar.pure (part (λ (tree : A). Some tree) found)))
    (Grammar.pure (record { tree = None; height = 0 })) xs h

pub ruleset maybe_steps = (maybe_go, maybe_end)

-- ---- atomic patterns

pub atpat_go : (fs : Fixities) (n : ℕ) (x : Lexeme) (xs : List Lexeme) → head_or xs None ≡ Some x → starts_atpat fs x ≡ true
    → read (atpat fs n) xs
    ≡ chain (read ((pat_level fs n).atpat x) (drop 1 xs)) (λ operand rest. Out.out (End.whole (plain (at x) operand)) rest)
unfolding atpat
atpat_go fs n x xs h starts =
    on_go (starts_atpat fs)
    (λ x. Grammar.bind ((pat_level fs n).atpat x) (λ operand. Grammar.pure (plain (at x) operand))) Grammar.refuse x xs h starts

pub atpat_refused : (fs : Fixities) (n : ℕ) (xs : List Lexeme) → begins (starts_atpat fs) (head_or xs None) ≡ false
    → read (atpat fs n) xs ≡ Out.out End.refused xs
unfolding atpat
atpat_refused fs n xs h =
    on_stop (starts_atpat fs)
    (λ x. Grammar.bind ((pat_level fs n).atpat x) (λ operand. Grammar.pure (plain (at x) operand))) Grammar.refuse xs h

pub ruleset atpat_steps = (atpat_go, atpat_refused)
