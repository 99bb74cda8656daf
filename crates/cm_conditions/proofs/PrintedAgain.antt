-- What is printed of a condition that was read is cut into the lexemes that it was read from.
use Rattle.std.proofs.Common.{◌≡◌, ℕ, zero, suc, ◌+◌, Bool, true, false, if◌then◌else◌, Option, None, Some, is_some, List, [], ◌∷◌, ◌++◌, codes, refl, ap, sym, ◌∙◌, subst, take, drop, append_assoc, append-nil, nat_eq, pos, nat_lt, ◌^◌, ℤ, arith}
use Rattle.std.specs.List.{prefix_len, list_all, flat_map}
use Rattle.std.specs.Fmt.{signed_decimal}
use Rattle.std.specs.Cmp.Lexicographic.{same_text}
use Rattle.std.proofs.lemmas.Grind.{flat_map-append}
use Rattle.cm_base.specs.ByteClasses.{is_letter, is_digit, is_identifier_byte}
use Rattle.cm_base.specs.declared.record.ModName.{ModName}
use Rattle.cm_base.specs.declared.record.Namespace.{Namespace}
use Rattle.cm_base.specs.declared.record.Namespace.TheVariants as space
use Rattle.grammars.specs.Grammar.{Phrase, expect}
use Rattle.cm_conditions.specs.Grammar.{g, is_orelse, is_andalso, is_div, is_mod, is_not, is_defined, is_name, space_of, operator_mark, operator_of, comparison_of, step_of, extended, joined, joined_by, is_paren, is_word, if_passes, word_of, starts_atom, with_word, word_then, closed, module_of, defined_of, defined, in_parens, atom_of_word, atom_after, atom, factor, rounds, chain, compared, comparison, part, below, condition}
use Rattle.cm_conditions.specs.Answers.{IsRead, IsPrinted}
use Rattle.cm_conditions.specs.Lexemes.{is_space, number_from, number_lexeme, two_bytes, one_byte, next_of, mark_or_wrong, mark_lexeme, more_of, lexeme_at, lexemes_of, lexemes_within}
use Rattle.cm_conditions.specs.Printing.{space_word, module_text, operator_text, defined_text, not_text, printed, printed_step, text_level, step_level}
use Rattle.cm_conditions.specs.declared.cond.Cond.{Cond, out-Cond, roll-Cond, roll-out-Cond}
use Rattle.cm_conditions.specs.declared.cond.Cond.TheOpen.{Cond-F, Step-F}
use Rattle.cm_conditions.specs.declared.cond.Cond.TheFolds.{fold-Cond, fold-Step, fold-roll-Cond, fold-roll-Step}
use Rattle.cm_conditions.specs.declared.cond.Cond.TheVariants as c
use Rattle.cm_conditions.specs.declared.cond.Step.{Step}
use Rattle.cm_conditions.specs.declared.cond.Step.TheVariants as t
use Rattle.cm_conditions.specs.declared.lexeme.Lexeme.{Lexeme}
use Rattle.cm_conditions.specs.declared.lexeme.Lexeme.TheVariants as x
use Rattle.cm_conditions.specs.declared.lexeme.Mark.{Mark}
use Rattle.cm_conditions.specs.declared.lexeme.Mark.TheVariants as m
use Rattle.cm_conditions.specs.declared.lexeme.Operator.{Operator}
use Rattle.cm_conditions.specs.declared.lexeme.Operator.TheVariants as o
use Rattle.cm_conditions.specs.declared.lexeme.Strength.{Strength}
use Rattle.cm_conditions.specs.declared.lexeme.Strength.TheVariants as s
use Rattle.cm_conditions.proofs.Makes.{AreAll, Makes, makes_pure, makes_refuse, makes_bind, makes_on, makes_within, makes_many, makes_behind}
use Rattle.cm_conditions.proofs.PrintingSteps.{printed-Chain}
use lib.Pointwise.{pointwise}
use Rattle.cm_conditions.proofs.Spelling.{Spells, IsWordText, operator_is, operator_lexeme, spells_word, spells_number, spells_operator, spells_parens, spells_not, spells_defined, spells_module}

-- ---- the lexemes of a text

-- a lexeme of some text
abbrev pub IsWritten : Lexeme → Type 0
IsWritten (x.Number z) = (n : ℕ) × (number_lexeme n ≡ x.Number z)
IsWritten (x.Word word) = IsWordText word
IsWritten (x.Mark mark) = Unit {0}
IsWritten x.Wrong = Unit {0}

run_passes : (p : ℕ → Bool) (xs : List ℕ) → list_all p (take (prefix_len p xs) xs) ≡ true
run_passes p [] = refl
run_passes p (x ∷ xs) = by (run_passes p xs) (p x) refl
  where
    by : list_all p (take (prefix_len p xs) xs) ≡ true → (b : Bool) → p x ≡ b
        → list_all p (take (prefix_len p (x ∷ xs)) (x ∷ xs)) ≡ true
    by next true e =
        let one : prefix_len p (x ∷ xs) ≡ suc (prefix_len p xs) = rw e (omega arith) in rw (one, e) next
    by next false e = rw e refl

number_written : (n : ℕ) (b : Bool) → nat_lt n (2 ^ 63) ≡ b
    → number_lexeme n ≡ (if b then x.Number (pos n) else x.Wrong)
    → IsWritten (number_lexeme n)
number_written n true e h = subst IsWritten (sym h) (n, h)
number_written n false e h = subst IsWritten (sym h) tt

number_split : (n : ℕ) → number_lexeme n ≡ (if nat_lt n (2 ^ 63) then x.Number (pos n) else x.Wrong)
unfolding number_lexeme
number_split n = refl

number_one : (n : ℕ) → IsWritten (number_lexeme n)
number_one n = number_written n (nat_lt n (2 ^ 63)) refl (number_split n)

mark_written : (found : Option Mark) → IsWritten (mark_or_wrong found)
mark_written None = tt
mark_written (Some mark) = tt

other_written : (found : Option Mark) (byte : ℕ) → IsWritten (mark_lexeme found byte)
other_written None byte = mark_written (one_byte byte)
other_written (Some mark) byte = tt

word_written : (byte : ℕ) (bytes : List ℕ) → is_letter byte ≡ true
    → IsWordText (take (1 + prefix_len is_identifier_byte bytes) (byte ∷ bytes))
word_written byte bytes h =
    let far : 1 + prefix_len is_identifier_byte bytes ≡ suc (prefix_len is_identifier_byte bytes) = omega arith in
    rw far (h, run_passes is_identifier_byte bytes)

lexeme_written : (byte : ℕ) (bytes : List ℕ) (d l : Bool) → is_digit byte ≡ d → is_letter byte ≡ l
    → IsWritten (lexeme_at byte bytes)
lexeme_written byte bytes true l e f =
    rw e (number_one (number_from 0 (take (1 + prefix_len is_digit bytes) (byte ∷ bytes))))
lexeme_written byte bytes false true e f = rw (e, f) (word_written byte bytes f)
lexeme_written byte bytes false false e f = rw (e, f) (other_written (two_bytes byte (next_of bytes)) byte)

within_written : (n : ℕ) (text : List ℕ) → AreAll IsWritten (lexemes_within n text)
within_written zero text = tt
within_written (suc n) [] = tt
within_written (suc n) (byte ∷ bytes) =
    by (within_written n bytes) (within_written n (drop (more_of byte bytes) bytes)) (is_space byte)
  where
    by : AreAll IsWritten (lexemes_within n bytes)
        → AreAll IsWritten (lexemes_within n (drop (more_of byte bytes) bytes))
        → (b : Bool) → AreAll IsWritten
        (if b then lexemes_within n bytes else lexeme_at byte bytes ∷ lexemes_within n
        (drop (more_of byte bytes) bytes))
    by one two true = one
    by one two false = (lexeme_written byte bytes (is_digit byte) (is_letter byte) refl refl, two)

pub all_written : (text : List ℕ) → AreAll IsWritten (lexemes_of text)
unfolding lexemes_of
all_written text = within_written _ text

-- ---- operators

printed_one : (left : Cond) (step : Step) → printed (c.Chain left (step ∷ [])) ≡ printed left ++ printed_step step
printed_one left step = printed-Chain left (step ∷ [])
    ∙ ap (λ (l : List ℕ). printed left ++ l) (append-nil (printed_step step))

extended_printed : (level : Cond-F Cond Step) (left : Cond) (step : Step) → roll-Cond level ≡ left
    → printed (extended level left step) ≡ printed left ++ printed_step step
extended_printed (Cond-F.Chain first steps) left step is =
    printed-Chain first (steps ++ step ∷ [])
    ∙ ap (λ (l : List ℕ). printed first ++ l)
    (flat_map-append printed_step steps (step ∷ [])
    ∙ ap (λ (l : List ℕ). flat_map printed_step steps ++ l) (append-nil (printed_step step)))
    ∙ sym (append_assoc (printed first) (flat_map printed_step steps) (printed_step step))
    ∙ ap (λ (l : List ℕ). l ++ printed_step step)
    (sym (printed-Chain first steps) ∙ ap printed (sym (c.rolls-Chain first steps) ∙ is))
extended_printed (Cond-F.Number n) left step is = printed_one left step
extended_printed (Cond-F.Name name) left step is = printed_one left step
extended_printed (Cond-F.Defined name) left step is = printed_one left step
extended_printed (Cond-F.Provided wanted) left step is = printed_one left step
extended_printed (Cond-F.Parens inner) left step is = printed_one left step
extended_printed (Cond-F.Not inner) left step is = printed_one left step

abbrev step_text : Step → List ℕ
step_text = fold-Step (List ℕ) (List ℕ) text_level step_level

abbrev cond_text : Cond → List ℕ
cond_text = fold-Cond (List ℕ) (List ℕ) text_level step_level

step_printed : (op : Operator) (right : Cond) → printed_step (step_of op right) ≡ operator_text op ++ printed right
unfolding printed printed_step
step_printed o.Multiply right = ap step_text (sym (t.rolls-Multiply right))
    ∙ fold-roll-Step _ _ text_level step_level (Step-F.Multiply right)
step_printed o.Div right = ap step_text (sym (t.rolls-Div right))
    ∙ fold-roll-Step _ _ text_level step_level (Step-F.Div right)
step_printed o.Mod right = ap step_text (sym (t.rolls-Mod right))
    ∙ fold-roll-Step _ _ text_level step_level (Step-F.Mod right)
step_printed o.Add right = ap step_text (sym (t.rolls-Add right))
    ∙ fold-roll-Step _ _ text_level step_level (Step-F.Add right)
step_printed o.Subtract right = ap step_text (sym (t.rolls-Subtract right))
    ∙ fold-roll-Step _ _ text_level step_level (Step-F.Subtract right)
step_printed o.Equal right = ap step_text (sym (t.rolls-Equal right))
    ∙ fold-roll-Step _ _ text_level step_level (Step-F.Equal right)
step_printed o.Unequal right = ap step_text (sym (t.rolls-Unequal right))
    ∙ fold-roll-Step _ _ text_level step_level (Step-F.Unequal right)
step_printed o.Less right = ap step_text (sym (t.rolls-Less right))
    ∙ fold-roll-Step _ _ text_level step_level (Step-F.Less right)
step_printed o.LessEqual right = ap step_text (sym (t.rolls-LessEqual right))
    ∙ fold-roll-Step _ _ text_level step_level (Step-F.LessEqual right)
step_printed o.Greater right = ap step_text (sym (t.rolls-Greater right))
    ∙ fold-roll-Step _ _ text_level step_level (Step-F.Greater right)
step_printed o.GreaterEqual right = ap step_text (sym (t.rolls-GreaterEqual right))
    ∙ fold-roll-Step _ _ text_level step_level (Step-F.GreaterEqual right)
step_printed o.Andalso right = ap step_text (sym (t.rolls-Andalso right))
    ∙ fold-roll-Step _ _ text_level step_level (Step-F.Andalso right)
step_printed o.Orelse right = ap step_text (sym (t.rolls-Orelse right))
    ∙ fold-roll-Step _ _ text_level step_level (Step-F.Orelse right)

joined_printed : (op : Operator) (left right : Cond)
    → printed (joined op left right) ≡ printed left ++ (operator_text op ++ printed right)
unfolding joined
joined_printed op left right =
    extended_printed (out-Cond left) left (step_of op right) (roll-out-Cond left)
    ∙ ap (λ (l : List ℕ). printed left ++ l) (step_printed op right)

same_word : (word : List ℕ) (name : List ℕ) → true ≡ pointwise nat_eq word name → x.Word word ≡ x.Word name
same_word word name h = ap x.Word (same_text word name h)

-- a choice of an operator by a test of its word
by_word : (b : Bool) (word name : List ℕ) (one op : Operator) → pointwise nat_eq word name ≡ b
    → operator_lexeme one ≡ x.Word name → (if b then Some one else None) ≡ Some op → x.Word word ≡ operator_lexeme op
by_word true word name one op e is h =
    let same : one ≡ op = cc in same_word word name (sym e) ∙ sym is ∙ ap operator_lexeme same
by_word false word name one op e is h = absurd (cc)

product_word : (b c : Bool) (word : List ℕ) (op : Operator) → pointwise nat_eq word (codes "div") ≡ b
    → pointwise nat_eq word (codes "mod") ≡ c
    → (if b then Some o.Div else (if c then Some o.Mod else None)) ≡ Some op → x.Word word ≡ operator_lexeme op
product_word true c word op e f h = by_word true word (codes "div") o.Div op e refl h
product_word false c word op e f h = by_word c word (codes "mod") o.Mod op f refl h

mark_same : (strength : Strength) (mark : Mark) (op : Operator) → operator_mark strength mark ≡ Some op
    → x.Mark mark ≡ operator_lexeme op
mark_same s.Sum m.Plus op h = let same : o.Add ≡ op = cc in ap operator_lexeme same
mark_same s.Sum m.Minus op h = let same : o.Subtract ≡ op = cc in ap operator_lexeme same
mark_same s.Product m.Times op h = let same : o.Multiply ≡ op = cc in ap operator_lexeme same
mark_same s.Sum m.Open op h = absurd (cc)
mark_same s.Sum m.Close op h = absurd (cc)
mark_same s.Sum m.Times op h = absurd (cc)
mark_same s.Sum m.Equal op h = absurd (cc)
mark_same s.Sum m.Unequal op h = absurd (cc)
mark_same s.Sum m.Less op h = absurd (cc)
mark_same s.Sum m.LessEqual op h = absurd (cc)
mark_same s.Sum m.Greater op h = absurd (cc)
mark_same s.Sum m.GreaterEqual op h = absurd (cc)
mark_same s.Product m.Open op h = absurd (cc)
mark_same s.Product m.Close op h = absurd (cc)
mark_same s.Product m.Plus op h = absurd (cc)
mark_same s.Product m.Minus op h = absurd (cc)
mark_same s.Product m.Equal op h = absurd (cc)
mark_same s.Product m.Unequal op h = absurd (cc)
mark_same s.Product m.Less op h = absurd (cc)
mark_same s.Product m.LessEqual op h = absurd (cc)
mark_same s.Product m.Greater op h = absurd (cc)
mark_same s.Product m.GreaterEqual op h = absurd (cc)
mark_same s.Or mark op h = absurd (cc)
mark_same s.And mark op h = absurd (cc)

-- a lexeme that is an operator is spelled as it
operator_same : (strength : Strength) (y : Lexeme) (op : Operator) → operator_of strength y ≡ Some op
    → y ≡ operator_lexeme op
unfolding is_orelse is_andalso is_div is_mod
operator_same strength (x.Number n) op h = absurd (cc)
operator_same s.Or (x.Word word) op h = by_word (is_orelse word) word (codes "orelse") o.Orelse op refl refl h
operator_same s.And (x.Word word) op h = by_word (is_andalso word) word (codes "andalso") o.Andalso op refl refl h
operator_same s.Sum (x.Word word) op h = absurd (cc)
operator_same s.Product (x.Word word) op h = product_word (is_div word) (is_mod word) word op refl refl h
operator_same strength (x.Mark mark) op h = mark_same strength mark op h
operator_same strength x.Wrong op h = absurd (cc)

comparison_same : (y : Lexeme) (op : Operator) → comparison_of y ≡ Some op → y ≡ operator_lexeme op
comparison_same (x.Number n) op h = absurd (cc)
comparison_same (x.Word word) op h = absurd (cc)
comparison_same x.Wrong op h = absurd (cc)
comparison_same (x.Mark m.Equal) op h = let same : o.Equal ≡ op = cc in ap operator_lexeme same
comparison_same (x.Mark m.Unequal) op h = let same : o.Unequal ≡ op = cc in ap operator_lexeme same
comparison_same (x.Mark m.Less) op h = let same : o.Less ≡ op = cc in ap operator_lexeme same
comparison_same (x.Mark m.LessEqual) op h = let same : o.LessEqual ≡ op = cc in ap operator_lexeme same
comparison_same (x.Mark m.Greater) op h = let same : o.Greater ≡ op = cc in ap operator_lexeme same
comparison_same (x.Mark m.GreaterEqual) op h = let same : o.GreaterEqual ≡ op = cc in ap operator_lexeme same
comparison_same (x.Mark m.Open) op h = absurd (cc)
comparison_same (x.Mark m.Close) op h = absurd (cc)
comparison_same (x.Mark m.Times) op h = absurd (cc)
comparison_same (x.Mark m.Plus) op h = absurd (cc)
comparison_same (x.Mark m.Minus) op h = absurd (cc)

-- ---- phrases

-- the text of a condition spells its lexemes
abbrev pub Printed : List Lexeme → Cond → Type 0
Printed xs cond = Spells (printed cond) xs

beside : (left right : Cond) {xs ys zs : List Lexeme} (y : Lexeme) (found : Option Operator)
    → ((op : Operator) → found ≡ Some op → y ≡ operator_lexeme op) → is_some found ≡ true → Printed xs left
    → Printed ys right → zs ≡ (xs ++ y ∷ []) ++ ys → Printed zs (joined_by found left right)
beside left right y None same some l r is = absurd (cc)
beside left right {xs} {ys} {zs} y (Some op) same some l r is =
    let all : zs ≡ xs ++ operator_lexeme op ∷ ys =
    is ∙ append_assoc xs (y ∷ []) ys ∙ ap (λ (one : Lexeme). xs ++ one ∷ ys) (same op refl) in
    subst (λ l. Spells (printed (joined op left right)) l) (sym all)
    (subst (λ t. Spells t (xs ++ operator_lexeme op ∷ ys)) (sym (joined_printed op left right))
    (spells_operator l (operator_is op) r))

rounds_makes : {f : g} {before : List Lexeme} (strength : Strength) (left : Cond) → Makes IsWritten [] f Printed
    → Printed before left → Makes IsWritten before (rounds f strength left) Printed
unfolding rounds
rounds_makes strength left one p =
    makes_many (λ before left y q go w. makes_bind (makes_behind one) (λ ys right r.
    makes_pure (beside left right y (operator_of strength y) (operator_same strength y) go q r.2 r.1))) p

chain_makes : {f : g} (strength : Strength) → Makes IsWritten [] f Printed
    → Makes IsWritten [] (chain f strength) Printed
unfolding chain
chain_makes strength one = makes_bind one (λ ys first p. rounds_makes strength first one p)

compared_makes : {f : g} {before : List Lexeme} (left : Cond) → Makes IsWritten [] f Printed → Printed before left
    → Makes IsWritten before (compared f left) Printed
unfolding compared
compared_makes left one p =
    makes_on (λ y go w. makes_bind (makes_behind one) (λ ys right r.
    makes_pure (beside left right y (comparison_of y) (comparison_same y) go p r.2 r.1))) (makes_pure p)

comparison_makes : {f : g} → Makes IsWritten [] f Printed → Makes IsWritten [] (comparison f) Printed
unfolding comparison
comparison_makes one = makes_bind one (λ ys left p. compared_makes left one p)

open_is : (y : Lexeme) → is_paren m.Open y ≡ true → y ≡ x.Mark m.Open
open_is (x.Number n) h = absurd (cc)
open_is (x.Word word) h = absurd (cc)
open_is x.Wrong h = absurd (cc)
open_is (x.Mark m.Open) h = refl
open_is (x.Mark m.Close) h = absurd (cc)
open_is (x.Mark m.Times) h = absurd (cc)
open_is (x.Mark m.Plus) h = absurd (cc)
open_is (x.Mark m.Minus) h = absurd (cc)
open_is (x.Mark m.Equal) h = absurd (cc)
open_is (x.Mark m.Unequal) h = absurd (cc)
open_is (x.Mark m.Less) h = absurd (cc)
open_is (x.Mark m.LessEqual) h = absurd (cc)
open_is (x.Mark m.Greater) h = absurd (cc)
open_is (x.Mark m.GreaterEqual) h = absurd (cc)

close_is : (y : Lexeme) → is_paren m.Close y ≡ true → y ≡ x.Mark m.Close
close_is (x.Number n) h = absurd (cc)
close_is (x.Word word) h = absurd (cc)
close_is x.Wrong h = absurd (cc)
close_is (x.Mark m.Open) h = absurd (cc)
close_is (x.Mark m.Close) h = refl
close_is (x.Mark m.Times) h = absurd (cc)
close_is (x.Mark m.Plus) h = absurd (cc)
close_is (x.Mark m.Minus) h = absurd (cc)
close_is (x.Mark m.Equal) h = absurd (cc)
close_is (x.Mark m.Unequal) h = absurd (cc)
close_is (x.Mark m.Less) h = absurd (cc)
close_is (x.Mark m.LessEqual) h = absurd (cc)
close_is (x.Mark m.Greater) h = absurd (cc)
close_is (x.Mark m.GreaterEqual) h = absurd (cc)

-- a lexeme behind others
abbrev Ends : List Lexeme → Lexeme → List Lexeme → Lexeme → Type 0
Ends before y ys z = ys ≡ before ++ y ∷ []

paren_makes : {before : List Lexeme} (mark : Mark) → ((y : Lexeme) → is_paren mark y ≡ true → y ≡ x.Mark mark)
    → Makes IsWritten before (expect (is_paren mark)) (Ends before (x.Mark mark))
paren_makes {before} mark is =
    makes_on (λ y h w. makes_pure (ap (λ (z : Lexeme). before ++ z ∷ []) (is y h))) makes_refuse

closed_makes : {before : List Lexeme} (cond : Cond) → Printed (before ++ x.Mark m.Close ∷ []) cond
    → Makes IsWritten before (closed cond) Printed
unfolding closed
closed_makes cond p =
    makes_bind (paren_makes m.Close close_is) (λ ys y is. makes_pure (subst (λ l. Printed l cond) (sym is) p))

passing_makes : (before : List Lexeme) (t : List ℕ → Bool) (k : List ℕ → g) (word : List ℕ) (b : Bool) → t word ≡ b
    → is_some (if_passes b word) ≡ true
    → (t word ≡ true → Makes IsWritten (before ++ x.Word word ∷ []) (k word) Printed)
    → Makes IsWritten (before ++ x.Word word ∷ []) (with_word k (if_passes b word)) Printed
passing_makes before t k word true e h one = one e
passing_makes before t k word false e h one = absurd (cc)

word_makes : {before : List Lexeme} (t : List ℕ → Bool) (k : List ℕ → g)
    → ((word : List ℕ) → t word ≡ true → IsWordText word
    → Makes IsWritten (before ++ x.Word word ∷ []) (k word) Printed)
    → Makes IsWritten before (word_then t k) Printed
unfolding word_then
word_makes {before} t k one = makes_on go makes_refuse
  where
    go : (y : Lexeme) → is_some (word_of t y) ≡ true → IsWritten y
        → Makes IsWritten (before ++ y ∷ []) (with_word k (word_of t y)) Printed
    go (x.Number n) h w = absurd (cc)
    go (x.Word word) h w = passing_makes before t k word (t word) refl h (λ e. one word e w)
    go (x.Mark mark) h w = absurd (cc)
    go x.Wrong h w = absurd (cc)

-- ---- atoms

space_by : (a b c d : Bool) (word : List ℕ) (found : Namespace) → pointwise nat_eq word (codes "structure") ≡ a
    → pointwise nat_eq word (codes "signature") ≡ b → pointwise nat_eq word (codes "functor") ≡ c
    → pointwise nat_eq word (codes "funsig") ≡ d
    → (if a then Some space.Structure else (if b then Some space.Signature else (if c then Some space.Functor
    else (if d then Some space.Funsig else None)))) ≡ Some found → word ≡ space_word found
unfolding space_word
space_by true b c d word found e f k l h =
    let same : space.Structure ≡ found = cc in same_text word (codes "structure") (sym e) ∙ ap space_word same
space_by false true c d word found e f k l h =
    let same : space.Signature ≡ found = cc in same_text word (codes "signature") (sym f) ∙ ap space_word same
space_by false false true d word found e f k l h =
    let same : space.Functor ≡ found = cc in same_text word (codes "functor") (sym k) ∙ ap space_word same
space_by false false false true word found e f k l h =
    let same : space.Funsig ≡ found = cc in same_text word (codes "funsig") (sym l) ∙ ap space_word same
space_by false false false false word found e f k l h = absurd (cc)

-- a word that stands for a name space is its word
pub space_same : (word : List ℕ) (found : Namespace) → space_of word ≡ Some found → word ≡ space_word found
unfolding space_of
space_same word found h = space_by _ _ _ _ word found refl refl refl refl h

-- `defined`, its parenthesis, and these lexemes
abbrev opened : List Lexeme → List Lexeme
opened xs = x.Word (codes "defined") ∷ (x.Mark m.Open ∷ xs)

printed_number : (n : ℤ) → printed (c.Number n) ≡ signed_decimal n
unfolding printed
printed_number n = ap cond_text (sym (c.rolls-Number n)) ∙ fold-roll-Cond _ _ text_level step_level (Cond-F.Number n)

printed_name : (name : List ℕ) → printed (c.Name name) ≡ name
unfolding printed
printed_name name = ap cond_text (sym (c.rolls-Name name))
    ∙ fold-roll-Cond _ _ text_level step_level (Cond-F.Name name)

printed_defined : (name : List ℕ) → printed (c.Defined name) ≡ defined_text ++ (name ++ 41 ∷ [])
unfolding printed
printed_defined name = ap cond_text (sym (c.rolls-Defined name))
    ∙ fold-roll-Cond _ _ text_level step_level (Cond-F.Defined name)

printed_provided : (wanted : ModName) → printed (c.Provided wanted) ≡ defined_text ++ (module_text wanted ++ 41 ∷ [])
unfolding printed
printed_provided wanted = ap cond_text (sym (c.rolls-Provided wanted))
    ∙ fold-roll-Cond _ _ text_level step_level (Cond-F.Provided wanted)

printed_parens : (inner : Cond) → printed (c.Parens inner) ≡ 40 ∷ (printed inner ++ 41 ∷ [])
unfolding printed
printed_parens inner = ap cond_text (sym (c.rolls-Parens inner))
    ∙ fold-roll-Cond _ _ text_level step_level (Cond-F.Parens inner)

printed_not : (inner : Cond) → printed (c.Not inner) ≡ not_text ++ printed inner
unfolding printed
printed_not inner = ap cond_text (sym (c.rolls-Not inner))
    ∙ fold-roll-Cond _ _ text_level step_level (Cond-F.Not inner)

as_printed : {text : List ℕ} (cond : Cond) {xs : List Lexeme} → printed cond ≡ text → Spells text xs → Printed xs cond
as_printed {text} cond {xs} e s = subst (λ t. Spells t xs) (sym e) s

-- a module in `defined`
abbrev provided : Namespace → List ℕ → Cond
provided s name = c.Provided (record { space = s; name = name })

module_makes : (word : List ℕ) (found : Option Namespace) → space_of word ≡ found
    → Makes IsWritten (opened (x.Word word ∷ [])) (module_of found) Printed
unfolding module_of
module_makes word None e = makes_refuse
module_makes word (Some s) e =
    word_makes (λ _. true) (λ name. closed (provided s name)) (λ name h w.
    closed_makes (provided s name)
    (subst (λ l. Printed (opened (x.Word l ∷ x.Word name ∷ x.Mark m.Close ∷ [])) (provided s name))
    (sym (space_same word s e))
    (as_printed (provided s name) (printed_provided (record { space = s; name = name }))
    (spells_defined (spells_module s name w)))))

defined_of_makes : (word : List ℕ) → IsWordText word
    → Makes IsWritten (opened (x.Word word ∷ [])) (defined_of word) Printed
unfolding defined_of
defined_of_makes word w =
    makes_on (λ y h v. makes_pure
    (subst (λ z. Printed (opened (x.Word word ∷ z ∷ [])) (c.Defined word)) (sym (close_is y h))
    (as_printed (c.Defined word) (printed_defined word) (spells_defined (spells_word word w)))))
    (module_makes word (space_of word) refl)

defined_makes : Makes IsWritten (x.Word (codes "defined") ∷ []) defined Printed
unfolding defined
defined_makes =
    makes_bind (paren_makes m.Open open_is) (λ ys y is.
    subst (λ l. Makes IsWritten l (word_then is_name defined_of) Printed) (sym is)
    (word_makes is_name defined_of (λ word h w. defined_of_makes word w)))

in_parens_makes : {f : g} → Makes IsWritten [] f Printed → Makes IsWritten (x.Mark m.Open ∷ []) (in_parens f) Printed
unfolding in_parens
in_parens_makes one =
    makes_bind (makes_behind one) (λ ys inner r.
    closed_makes (c.Parens inner)
    (subst (λ l. Printed (l ++ x.Mark m.Close ∷ []) (c.Parens inner)) (sym r.1)
    (as_printed (c.Parens inner) (printed_parens inner) (spells_parens r.2))))

word_atom_makes : (word : List ℕ) (b : Bool) → is_defined word ≡ b → IsWordText word
    → Makes IsWritten (x.Word word ∷ []) (atom_of_word b word) Printed
unfolding is_defined
word_atom_makes word true e w =
    subst (λ y. Makes IsWritten (y ∷ []) defined Printed)
    (sym (same_word word (codes "defined") (sym e))) defined_makes
word_atom_makes word false e w = makes_pure (as_printed (c.Name word) (printed_name word) (spells_word word w))

atom_after_makes : {f : g} (y : Lexeme) → Makes IsWritten [] f Printed → starts_atom y ≡ true → IsWritten y
    → Makes IsWritten (y ∷ []) (atom_after f y) Printed
atom_after_makes (x.Number z) one h w =
    makes_pure (as_printed (c.Number z) (printed_number z) (spells_number w.0 z w.1))
atom_after_makes (x.Word word) one h w = word_atom_makes word (is_defined word) refl w
atom_after_makes {f} (x.Mark mark) one h w =
    subst (λ y. Makes IsWritten (y ∷ []) (in_parens f) Printed) (sym (open_is (x.Mark mark) h)) (in_parens_makes one)
atom_after_makes x.Wrong one h w = absurd (cc)

atom_makes : {f : g} → Makes IsWritten [] f Printed → Makes IsWritten [] (atom f) Printed
unfolding atom
atom_makes one = makes_on (λ y h w. atom_after_makes y one h w) makes_refuse

not_is : (y : Lexeme) → is_word is_not y ≡ true → y ≡ x.Word (codes "not")
unfolding is_not
not_is (x.Number n) h = absurd (cc)
not_is (x.Word word) h = same_word word (codes "not") (sym h)
not_is (x.Mark mark) h = absurd (cc)
not_is x.Wrong h = absurd (cc)

factor_makes : {f : g} → Makes IsWritten [] f Printed → Makes IsWritten [] (factor f) Printed
unfolding factor
factor_makes one =
    makes_on (λ y h w. makes_bind (makes_behind (atom_makes one)) (λ ys inner r.
    makes_pure (subst (λ l. Printed l (c.Not inner)) (sym (r.1 ∙ ap (λ (z : Lexeme). z ∷ r.0) (not_is y h)))
    (as_printed (c.Not inner) (printed_not inner) (spells_not r.2))))) (atom_makes one)

-- ---- conditions

sums_make : {f : g} → Makes IsWritten [] f Printed
    → Makes IsWritten [] (chain (chain (factor f) s.Product) s.Sum) Printed
sums_make one = chain_makes s.Sum (chain_makes s.Product (factor_makes one))

condition_makes : {f : g} → Makes IsWritten [] f Printed → Makes IsWritten [] (chain (part f s.Or) s.Or) Printed
condition_makes one = chain_makes s.Or (chain_makes s.And (comparison_makes (sums_make one)))

below_makes : (n : ℕ) → Makes IsWritten [] (below n) Printed
unfolding below
below_makes zero = makes_within (λ h. makes_refuse)
below_makes (suc n) = condition_makes (below_makes n)

-- The text of a condition that was read spells the lexemes that it was read from, in one line.
pub printed_spells : (n : ℕ) (xs : List Lexeme) (cond : Cond) → AreAll IsWritten xs
    → Phrase (condition n) xs None cond
    → Spells (printed cond) xs
printed_spells n xs cond w p = (condition_makes (below_makes n)).made xs None cond w p

lexemes_none : lexemes_of [] ≡ []
unfolding lexemes_of
lexemes_none = refl

-- Spaces and tabs before it change nothing, and what stands behind it is nothing.
pub printed_lexed : (text : List ℕ) (cond : Cond) → Phrase (condition 128) (lexemes_of text) None cond
    → lexemes_of (printed cond) ≡ lexemes_of text
printed_lexed text cond p =
    let one = printed_spells 128 (lexemes_of text) cond (all_written text) p in
    ap lexemes_of (sym (append-nil (printed cond))) ∙ one.lexed [] refl
    ∙ ap (λ (l : List Lexeme). lexemes_of text ++ l) lexemes_none ∙ append-nil (lexemes_of text)

-- What is printed of a condition that was read is a line that is read as it again.
pub printed_again : (cond : Cond) → IsRead cond → IsPrinted (printed cond) cond
printed_again cond (text, p) = record {
  line = (printed_spells 128 (lexemes_of text) cond (all_written text) p).line;
  again = subst (λ l. Phrase (condition 128) l None cond) (sym (printed_lexed text cond p)) p;
}

pub printed_as_read : (text : List ℕ) (cond : Cond) → text ≡ printed cond → IsRead cond → IsPrinted text cond
printed_as_read text cond is r = subst (λ t. IsPrinted t cond) (sym is) (printed_again cond r)
