-- Texts and the lexemes that they spell, whatever stands behind them.
use Rattle.std.proofs.Common.{◌≡◌, ℕ, suc, ◌+◌, ◌*◌, ◌-◌, ◌%◌, ◌/◌, ◌^◌, ◌<◌, ◌≤◌, ◌==◌, ◌||◌, ◌&&◌, Bool, true, false, if◌then◌else◌, List, [], ◌∷◌, ◌++◌, codes, refl, ap, ap₂, sym, ◌∙◌, subst, take, drop, length, arith, append_assoc, nat_lt, pos, ℤ, decimal}
use Rattle.std.specs.List.{prefix_len, list_all}
use Rattle.std.specs.Fmt.{signed_decimal}
use Rattle.std.proofs.lemmas.List.Folds.{list_all-append}
use Rattle.std.proofs.lemmas.Bool.Decides.{nat_tests}
use Rattle.std.proofs.lemmas.Fmt.{decimal_by_steps}
use Rattle.std.proofs.Math.Seq.{take-append_seam, drop-append_seam}
use Rattle.cm_base.specs.ByteClasses.{is_letter, is_digit, is_identifier_byte}
use Rattle.cm_base.specs.declared.record.Namespace.{Namespace}
use Rattle.cm_base.specs.declared.record.Namespace.TheVariants as space
use Rattle.cm_conditions.specs.Lexemes.{is_space, number_from, number_lexeme, more_of, lexeme_at, lexemes_of}
use Rattle.cm_conditions.specs.Printing.{is_in_line, space_word, operator_text, defined_text, not_text, module_text}
use Rattle.cm_conditions.specs.declared.lexeme.Lexeme.{Lexeme}
use Rattle.cm_conditions.specs.declared.lexeme.Lexeme.TheVariants as x
use Rattle.cm_conditions.specs.declared.lexeme.Mark.TheVariants as m
use Rattle.cm_conditions.specs.declared.lexeme.Operator.{Operator}
use Rattle.cm_conditions.specs.declared.lexeme.Operator.TheVariants as o
use Rattle.cm_conditions.proofs.LexingSteps.{lexemes_space, lexemes_some}

-- what may stand behind a lexeme: nothing, a space or a closing parenthesis
abbrev pub stops : List ℕ → Bool
stops [] = true
stops (byte ∷ bytes) = (byte == 32) || (byte == 41)

-- the text spells these lexemes, whatever stands behind it, and is part of a line
pub record Spells (text : List ℕ) (xs : List Lexeme) : Type 0 where
  pub lexed : (rest : List ℕ) → stops rest ≡ true → lexemes_of (text ++ rest) ≡ xs ++ lexemes_of rest
  pub line : list_all is_in_line text ≡ true

-- ---- runs

-- a run ends where what may stand behind a lexeme begins
run_ends : (p : ℕ → Bool) → p 32 ≡ false → p 41 ≡ false → (rest : List ℕ) → stops rest ≡ true → prefix_len p rest ≡ 0
run_ends p h k [] s = refl
run_ends p h k (byte ∷ bytes) s = by (byte == 32) (byte == 41) refl refl s
  where
    same : (a b : ℕ) → (a == b) ≡ true → a ≡ b
    same a b h = grind (arith, nat_tests)

    by : (a b : Bool) → (byte == 32) ≡ a → (byte == 41) ≡ b → (a || b) ≡ true → prefix_len p (byte ∷ bytes) ≡ 0
    by true b e f s = let is = same byte 32 e in let no : p byte ≡ false = rw is h in rw no refl
    by false true e f s = let is = same byte 41 f in let no : p byte ≡ false = rw is k in rw no refl
    by false false e f s = absurd (cc)

pub run_len : (p : ℕ → Bool) (run rest : List ℕ) → list_all p run ≡ true → prefix_len p rest ≡ 0
    → prefix_len p (run ++ rest) ≡ length run
run_len p [] rest all none = none
run_len p (byte ∷ bytes) rest all none = by (λ h. run_len p bytes rest h none) (p byte) refl all
  where
    by : (list_all p bytes ≡ true → prefix_len p (bytes ++ rest) ≡ length bytes) → (b : Bool) → p byte ≡ b
        → (b && list_all p bytes) ≡ true → prefix_len p ((byte ∷ bytes) ++ rest) ≡ length (byte ∷ bytes)
    by next true e h = let more = next h in rw e (omega (arith, more))
    by next false e h = absurd (cc)

-- ---- words

-- a letter, and then letters, digits, `_` and primes
abbrev pub IsWordText : List ℕ → Type 0
IsWordText [] = ⊥
IsWordText (byte ∷ bytes) = (is_letter byte ≡ true) × (list_all is_identifier_byte bytes ≡ true)

letter_no_space : (byte : ℕ) → is_letter byte ≡ true → is_space byte ≡ false
letter_no_space byte h = grind (arith, nat_tests)

letter_no_digit : (byte : ℕ) → is_letter byte ≡ true → is_digit byte ≡ false
letter_no_digit byte h = grind (arith, nat_tests)

take_run : (byte : ℕ) (run rest : List ℕ) → take (1 + length run) (byte ∷ (run ++ rest)) ≡ byte ∷ run
take_run byte run rest = let e : 1 + length run ≡ suc (length run) =
    omega arith in rw e (ap (λ (l : List ℕ). byte ∷ l) (take-append_seam run rest))

pub word_lexed : (byte : ℕ) (bytes rest : List ℕ) → is_letter byte ≡ true → list_all is_identifier_byte bytes ≡ true
    → prefix_len is_identifier_byte rest ≡ 0
    → lexemes_of ((byte ∷ bytes) ++ rest) ≡ x.Word (byte ∷ bytes) ∷ lexemes_of rest
word_lexed byte bytes rest h all none =
    let space = letter_no_space byte h in
    let digit = letter_no_digit byte h in
    let len = run_len is_identifier_byte bytes rest all none in
    let more : more_of byte (bytes ++ rest) ≡ length bytes = rw (digit, h, len) refl in
    let front : lexeme_at byte (bytes ++ rest) ≡ x.Word
    (take (1 + more_of byte (bytes ++ rest)) (byte ∷ (bytes ++ rest))) = rw (digit, h) refl in
    lexemes_some byte (bytes ++ rest) space
    ∙ ap₂ (λ (one : Lexeme) (n : ℕ). one ∷ lexemes_of (drop n (bytes ++ rest)))
    (front ∙ ap (λ (n : ℕ). x.Word (take (1 + n) (byte ∷ (bytes ++ rest)))) more
    ∙ ap x.Word (take_run byte bytes rest)) more
    ∙ ap (λ (l : List ℕ). x.Word (byte ∷ bytes) ∷ lexemes_of l) (drop-append_seam bytes rest)

identifier_in_line : (bytes : List ℕ) → list_all is_identifier_byte bytes ≡ true → list_all is_in_line bytes ≡ true
identifier_in_line [] h = refl
identifier_in_line (byte ∷ bytes) h = by (λ all. identifier_in_line bytes all) (is_identifier_byte byte) refl h
  where
    ok : is_identifier_byte byte ≡ true → is_in_line byte ≡ true
    ok e = grind (arith, nat_tests)

    by : (list_all is_identifier_byte bytes ≡ true → list_all is_in_line bytes ≡ true) → (b : Bool)
        → is_identifier_byte byte ≡ b → (b && list_all is_identifier_byte bytes) ≡ true
        → list_all is_in_line (byte ∷ bytes) ≡ true
    by next true e h = let one = ok e in let more = next h in rw (one, more) refl
    by next false e h = absurd (cc)

letter_in_line : (byte : ℕ) → is_letter byte ≡ true → is_in_line byte ≡ true
letter_in_line byte h = grind (arith, nat_tests)

pub word_line : (word : List ℕ) → IsWordText word → list_all is_in_line word ≡ true
word_line [] w = absurd w
word_line (byte ∷ bytes) w =
    let one = letter_in_line byte w.0 in let more = identifier_in_line bytes w.1 in rw (one, more) refl

pub word_front : (word rest : List ℕ) → IsWordText word → prefix_len is_identifier_byte rest ≡ 0
    → lexemes_of (word ++ rest) ≡ x.Word word ∷ lexemes_of rest
word_front [] rest w none = absurd w
word_front (byte ∷ bytes) rest w none = word_lexed byte bytes rest w.0 w.1 none

pub spells_word : (word : List ℕ) → IsWordText word → Spells word (x.Word word ∷ [])
spells_word word w = record {
  lexed = λ rest h. word_front word rest w (run_ends is_identifier_byte refl refl rest h);
  line = word_line word w;
}

-- ---- numbers

pub digits_lexed : (byte : ℕ) (bytes rest : List ℕ) → is_digit byte ≡ true → list_all is_digit bytes ≡ true
    → prefix_len is_digit rest ≡ 0
    → lexemes_of ((byte ∷ bytes) ++ rest) ≡ number_lexeme (number_from 0 (byte ∷ bytes)) ∷ lexemes_of rest
digits_lexed byte bytes rest h all none =
    let space : is_space byte ≡ false = grind (arith, nat_tests) in
    let len = run_len is_digit bytes rest all none in
    let more : more_of byte (bytes ++ rest) ≡ length bytes = rw (h, len) refl in
    let front : lexeme_at byte (bytes ++ rest) ≡ number_lexeme
    (number_from 0 (take (1 + more_of byte (bytes ++ rest)) (byte ∷ (bytes ++ rest)))) = rw h refl in
    lexemes_some byte (bytes ++ rest) space
    ∙ ap₂ (λ (one : Lexeme) (n : ℕ). one ∷ lexemes_of (drop n (bytes ++ rest)))
    (front ∙ ap (λ (n : ℕ). number_lexeme (number_from 0 (take (1 + n) (byte ∷ (bytes ++ rest))))) more
    ∙ ap (λ (l : List ℕ). number_lexeme (number_from 0 l)) (take_run byte bytes rest)) more
    ∙ ap (λ (l : List ℕ). number_lexeme (number_from 0 (byte ∷ bytes)) ∷ lexemes_of l) (drop-append_seam bytes rest)

-- decimal digits of this number
pub record IsDecimal (n : ℕ) (digits : List ℕ) : Type 0 where
  pub all : list_all is_digit digits ≡ true
  pub some : 1 ≤ length digits
  pub value : number_from 0 digits ≡ n

digit_of : (n : ℕ) → n < 10 → is_digit (48 + n) ≡ true
digit_of n h = grind (arith, nat_tests)

one_digit : (n : ℕ) → n < 10 → IsDecimal n ((48 + n) ∷ [])
one_digit n h = let d = digit_of n h in record { all = rw d refl; some = omega arith; value = omega arith }

number-append : (n : ℕ) (xs ys : List ℕ) → number_from n (xs ++ ys) ≡ number_from (number_from n xs) ys
number-append n [] ys = refl
number-append n (x ∷ xs) ys = number-append (10 * n + (x - 48)) xs ys

more_digits : (n : ℕ) (digits : List ℕ) → 10 ≤ n → IsDecimal (n / 10) digits
    → IsDecimal n (digits ++ ((48 + n % 10) ∷ []))
more_digits n digits h d = record {
  all = list_all-append is_digit digits ((48 + n % 10) ∷ [])
      ∙ (let one = digit_of (n % 10) (omega arith) in rw (d.all, one) refl);
  some = omega (arith, d.some, length-snoc digits (48 + n % 10));
  value = number-append 0 digits ((48 + n % 10) ∷ []) ∙ (rw d.value (omega arith));
}
  where
    length-snoc : (xs : List ℕ) (x : ℕ) → length (xs ++ x ∷ []) ≡ suc (length xs)
    length-snoc [] x = refl
    length-snoc (y ∷ xs) x = let e = length-snoc xs x in omega (arith, e)

pub decimal_is : (n : ℕ) → n < 2 ^ 64 → IsDecimal n (decimal n)
decimal_is n h = decimal_by_steps IsDecimal one_digit more_digits n h

pub decimal_some : (n : ℕ) (digits : List ℕ) (rest : List ℕ) → IsDecimal n digits → prefix_len is_digit rest ≡ 0
    → lexemes_of (digits ++ rest) ≡ number_lexeme n ∷ lexemes_of rest
decimal_some n [] rest d none = absurd (omega (arith, d.some))
decimal_some n (byte ∷ bytes) rest d none = by (is_digit byte) refl d.all
  where
    by : (b : Bool) → is_digit byte ≡ b → (b && list_all is_digit bytes) ≡ true
        → lexemes_of ((byte ∷ bytes) ++ rest) ≡ number_lexeme n ∷ lexemes_of rest
    by true e h = digits_lexed byte bytes rest e h none ∙ ap (λ (m : ℕ). number_lexeme m ∷ lexemes_of rest) d.value
    by false e h = absurd (cc)

digits_in_line : (bytes : List ℕ) → list_all is_digit bytes ≡ true → list_all is_in_line bytes ≡ true
digits_in_line [] h = refl
digits_in_line (byte ∷ bytes) h = by (λ all. digits_in_line bytes all) (is_digit byte) refl h
  where
    ok : is_digit byte ≡ true → is_in_line byte ≡ true
    ok e = grind (arith, nat_tests)

    by : (list_all is_digit bytes ≡ true → list_all is_in_line bytes ≡ true) → (b : Bool) → is_digit byte ≡ b
        → (b && list_all is_digit bytes) ≡ true → list_all is_in_line (byte ∷ bytes) ≡ true
    by next true e h = let one = ok e in let more = next h in rw (one, more) refl
    by next false e h = absurd (cc)

-- a number of a lexeme
number_of : (n : ℕ) (z : ℤ) (b : Bool) → nat_lt n (2 ^ 63) ≡ b
    → (if b then x.Number (pos n) else x.Wrong) ≡ x.Number z
    → (n < 2 ^ 64) × (z ≡ pos n)
number_of n z true e h = let small : n < 2 ^ 63 = grind (arith, nat_tests) in (omega (arith, small), cc)
number_of n z false e h = absurd (cc)

pub number_is : (n : ℕ) (z : ℤ) → number_lexeme n ≡ x.Number z → (n < 2 ^ 64) × (z ≡ pos n)
unfolding number_lexeme
number_is n z h = number_of n z (nat_lt n (2 ^ 63)) refl h

pub spells_number : (n : ℕ) (z : ℤ) → number_lexeme n ≡ x.Number z → Spells (signed_decimal z) (x.Number z ∷ [])
spells_number n z h =
    let is = number_is n z h in
    let digits = decimal_is n is.0 in
    let text : decimal n ≡ signed_decimal z = ap signed_decimal (sym is.1) in
    subst (λ t. Spells t (x.Number z ∷ [])) text (record {
      lexed = λ rest s. decimal_some n (decimal n) rest digits (run_ends is_digit refl refl rest s)
          ∙ ap (λ (one : Lexeme). one ∷ lexemes_of rest) h;
      line = digits_in_line (decimal n) digits.all;
    })

-- ---- marks and the words of the grammar

-- the lexeme of an operator
abbrev pub operator_lexeme : Operator → Lexeme
operator_lexeme o.Multiply = x.Mark m.Times
operator_lexeme o.Div = x.Word (codes "div")
operator_lexeme o.Mod = x.Word (codes "mod")
operator_lexeme o.Add = x.Mark m.Plus
operator_lexeme o.Subtract = x.Mark m.Minus
operator_lexeme o.Equal = x.Mark m.Equal
operator_lexeme o.Unequal = x.Mark m.Unequal
operator_lexeme o.Less = x.Mark m.Less
operator_lexeme o.LessEqual = x.Mark m.LessEqual
operator_lexeme o.Greater = x.Mark m.Greater
operator_lexeme o.GreaterEqual = x.Mark m.GreaterEqual
operator_lexeme o.Andalso = x.Word (codes "andalso")
operator_lexeme o.Orelse = x.Word (codes "orelse")

-- the text of an operator spells it, whatever stands on its sides
pub record IsOperatorText (text : List ℕ) (op : Lexeme) : Type 0 where
  pub lexed : (rest : List ℕ) → lexemes_of (text ++ rest) ≡ op ∷ lexemes_of rest
  pub begins : (rest : List ℕ) → stops (text ++ rest) ≡ true
  pub line : list_all is_in_line text ≡ true

-- a lexeme of one byte or more between two spaces
between : (byte : ℕ) (bytes rest : List ℕ) (op : Lexeme) → is_space byte ≡ false
    → lexeme_at byte (bytes ++ 32 ∷ rest) ≡ op
    → drop (more_of byte (bytes ++ 32 ∷ rest)) (bytes ++ 32 ∷ rest) ≡ 32 ∷ rest
    → lexemes_of (32 ∷ byte ∷ (bytes ++ 32 ∷ rest)) ≡ op ∷ lexemes_of rest
between byte bytes rest op other is after =
    lexemes_space 32 (byte ∷ (bytes ++ 32 ∷ rest)) refl ∙ lexemes_some byte (bytes ++ 32 ∷ rest) other
    ∙ ap₂ (λ (one : Lexeme) (l : List ℕ). one ∷ lexemes_of l) is after
    ∙ ap (λ (l : List Lexeme). op ∷ l) (lexemes_space 32 rest refl)

pub operator_is : (op : Operator) → IsOperatorText (operator_text op) (operator_lexeme op)
unfolding operator_text
operator_is o.Multiply = record
    { lexed = λ rest. between 42 [] rest _ refl refl refl; begins = λ rest. refl; line = refl }
operator_is o.Div = record {
  lexed = λ rest. between 100 (codes "iv") rest _ refl refl refl;
  begins =
      λ rest. refl;
  line = refl;
}
operator_is o.Mod = record {
  lexed = λ rest. between 109 (codes "od") rest _ refl refl refl;
  begins =
      λ rest. refl;
  line = refl;
}
operator_is o.Add = record { lexed = λ rest. between 43 [] rest _ refl refl refl; begins = λ rest. refl; line = refl }
operator_is o.Subtract = record
    { lexed = λ rest. between 45 [] rest _ refl refl refl; begins = λ rest. refl; line = refl }
operator_is o.Equal = record {
  lexed = λ rest. between 61 [] rest _ refl refl refl;
  begins = λ rest. refl;
  line =
      refl;
}
operator_is o.Unequal = record
    { lexed = λ rest. between 60 (62 ∷ []) rest _ refl refl refl; begins = λ rest. refl; line = refl }
operator_is o.Less = record {
  lexed = λ rest. between 60 [] rest _ refl refl refl;
  begins = λ rest. refl;
  line =
      refl;
}
operator_is o.LessEqual = record
    { lexed = λ rest. between 60 (61 ∷ []) rest _ refl refl refl; begins = λ rest. refl; line = refl }
operator_is o.Greater = record
    { lexed = λ rest. between 62 [] rest _ refl refl refl; begins = λ rest. refl; line = refl }
operator_is o.GreaterEqual = record
    { lexed = λ rest. between 62 (61 ∷ []) rest _ refl refl refl; begins = λ rest. refl; line = refl }
operator_is o.Andalso = record
    { lexed = λ rest. between 97 (codes "ndalso") rest _ refl refl refl; begins = λ rest. refl; line = refl }
operator_is o.Orelse = record {
  lexed = λ rest. between 111 (codes "relse") rest _ refl refl refl;
  begins =
      λ rest. refl;
  line = refl;
}

-- two texts, and an operator between them
pub spells_operator : {left text right : List ℕ} {xs ys : List Lexeme} {op : Lexeme} → Spells left xs
    → IsOperatorText text op → Spells right ys → Spells (left ++ (text ++ right)) (xs ++ op ∷ ys)
spells_operator {left} {text} {right} {xs} {ys} {op} l t r = record {
  lexed = λ rest s.
      ap lexemes_of (append_assoc left (text ++ right) rest)
      ∙ l.lexed ((text ++ right) ++ rest) (ap stops (append_assoc text right rest) ∙ t.begins (right ++ rest))
      ∙ ap (λ (l : List Lexeme). xs ++ l)
      (ap lexemes_of (append_assoc text right rest) ∙ t.lexed (right ++ rest)
      ∙ ap (λ (l : List Lexeme). op ∷ l) (r.lexed rest s))
      ∙ sym (append_assoc xs (op ∷ ys) (lexemes_of rest));
  line = list_all-append is_in_line left (text ++ right) ∙ ap₂ ◌&&◌ l.line
      (list_all-append is_in_line text right ∙ ap₂ ◌&&◌ t.line r.line);
}

close_lexed : (rest : List ℕ) → lexemes_of (41 ∷ rest) ≡ x.Mark m.Close ∷ lexemes_of rest
close_lexed rest = lexemes_some 41 rest refl

open_lexed : (rest : List ℕ) → lexemes_of (40 ∷ rest) ≡ x.Mark m.Open ∷ lexemes_of rest
open_lexed rest = lexemes_some 40 rest refl

-- a text in parentheses
pub spells_parens : {inner : List ℕ} {xs : List Lexeme} → Spells inner xs
    → Spells (40 ∷ (inner ++ 41 ∷ [])) (x.Mark m.Open ∷ (xs ++ x.Mark m.Close ∷ []))
spells_parens {inner} {xs} i = record {
  lexed = λ rest s.
      open_lexed ((inner ++ 41 ∷ []) ++ rest)
      ∙ ap (λ (l : List Lexeme). x.Mark m.Open ∷ l)
      (ap lexemes_of (append_assoc inner (41 ∷ []) rest) ∙ i.lexed (41 ∷ rest) refl
      ∙ ap (λ (l : List Lexeme). xs ++ l) (close_lexed rest)
      ∙ sym (append_assoc xs (x.Mark m.Close ∷ []) (lexemes_of rest)));
  line = list_all-append is_in_line inner (41 ∷ []) ∙ ap₂ ◌&&◌ i.line refl;
}

-- a text behind `not`
pub spells_not : {inner : List ℕ} {xs : List Lexeme} → Spells inner xs
    → Spells (not_text ++ inner) (x.Word (codes "not") ∷ xs)
unfolding not_text
spells_not {inner} {xs} i = record {
  lexed = λ rest s.
      word_lexed 110 (codes "ot") (32 ∷ (inner ++ rest)) refl refl refl
      ∙ ap (λ (l : List Lexeme). x.Word (codes "not") ∷ l) (lexemes_space 32 (inner ++ rest) refl ∙ i.lexed rest s);
  line = i.line;
}

-- a text in the parentheses of `defined`
pub spells_defined : {inner : List ℕ} {xs : List Lexeme} → Spells inner xs
    → Spells (defined_text ++ (inner ++ 41 ∷ []))
    (x.Word (codes "defined") ∷ (x.Mark m.Open ∷ (xs ++ x.Mark m.Close ∷ [])))
unfolding defined_text
spells_defined {inner} {xs} i = let parens = spells_parens i in record {
  lexed = λ rest s.
      word_lexed 100 (codes "efined") ((40 ∷ (inner ++ 41 ∷ [])) ++ rest) refl refl refl
      ∙ ap (λ (l : List Lexeme). x.Word (codes "defined") ∷ l) (parens.lexed rest s);
  line = parens.line;
}

-- a word and another
behind : (byte : ℕ) (bytes name : List ℕ) → is_letter byte ≡ true → list_all is_identifier_byte bytes ≡ true
    → IsWordText name
    → Spells ((byte ∷ bytes) ++ (32 ∷ name)) (x.Word (byte ∷ bytes) ∷ x.Word name ∷ [])
behind byte bytes name h all w = let one = spells_word name w in record {
  lexed = λ rest s.
      ap lexemes_of (append_assoc (byte ∷ bytes) (32 ∷ name) rest)
      ∙ word_lexed byte bytes (32 ∷ (name ++ rest)) h all refl
      ∙ ap (λ (l : List Lexeme). x.Word (byte ∷ bytes) ∷ l) (lexemes_space 32 (name ++ rest) refl ∙ one.lexed rest s);
  line = list_all-append is_in_line (byte ∷ bytes) (32 ∷ name)
      ∙ ap₂ ◌&&◌ (word_line (byte ∷ bytes) (h, all)) one.line;
}

-- a name space, and a module's name
pub spells_module : (s : Namespace) (name : List ℕ) → IsWordText name
    → Spells (module_text (record { space = s; name = name })) (x.Word (space_word s) ∷ x.Word name ∷ [])
unfolding space_word
spells_module space.Structure name w = behind 115 (codes "tructure") name refl refl w
spells_module space.Signature name w = behind 115 (codes "ignature") name refl refl w
spells_module space.Functor name w = behind 102 (codes "unctor") name refl refl w
spells_module space.Funsig name w = behind 102 (codes "unsig") name refl refl w
