-- The tokens of printed lines, and how the grammar reads them.
use Rattle.std.proofs.Common.{◌≡◌, ℕ, ◌==◌, ◌&&◌, Bool, true, false, if◌then◌else◌, Option, None, Some, is_some, option_map, List, [], ◌∷◌, ◌++◌, refl, ap, ap₂, sym, ◌∙◌, subst, drop, append_assoc, append-nil, arith}
use Rattle.std.specs.List.{prefix_len, list_all, flat_map}
use Rattle.std.proofs.lemmas.Bool.Decides.{nat_tests}
use Rattle.cm_base.specs.ByteClasses.{is_letter}
use Rattle.grammars.specs.Grammar.{End, Phrase, head_or}
use Rattle.grammars.specs.Reading.{Out, chain, read}
use Rattle.cm_lexer.specs.Bytes.{is_word_byte, is_in_line}
use Rattle.cm_lexer.specs.Pieces.{is_directive}
use Rattle.cm_lexer.specs.Points.{after}
use Rattle.cm_lexer.specs.Spelling.{slice_of}
use Rattle.cm_lexer.specs.declared.point.Point.{Point}
use Rattle.cm_lexer.specs.declared.token.Token.{Token}
use Rattle.cm_lexer.specs.declared.token.TokenKind.{TokenKind}
use Rattle.cm_lexer.specs.declared.token.TokenKind.TheVariants as kind
use Rattle.cm_conditions.specs.Answers.{IsRead}
use Rattle.cm_conditions.specs.Grammar.{condition}
use Rattle.cm_conditions.specs.Printing.{printed as printed_condition}
use Rattle.cm_conditions.specs.declared.cond.Cond.{Cond}
use Rattle.cm_conditions.specs.declared.line.Line.{Line}
use Rattle.cm_conditions.specs.declared.line.LineBody.{LineBody}
use Rattle.cm_conditions.specs.declared.line.LineBody.TheVariants as body
use Rattle.cm_conditions.proofs.LexingSteps.{lexemes_space}
use Rattle.cm_conditions.proofs.Makes.{AreAll}
use Rattle.cm_conditions.proofs.PrintedAgain.{printed_again}
use Rattle.cm_description.specs.Grammar.{mark, allowed, body_of, said, line, options, some_options, maybe_options, class, maybe_class}
use Rattle.cm_description.specs.Modules.{condition_of}
use Rattle.cm_description.specs.Printing.{directive_word, directive_rest, directive_line, option_text, options_text, class_text}
use Rattle.cm_description.specs.Words.{place, that, allows, word_by, is_word, same_kind, has_kind, trimmed, directive_of, directive_at}
use Rattle.cm_description.specs.declared.found.Classed.{Classed}
use Rattle.cm_description.specs.declared.word.WordKind.{WordKind}
use Rattle.cm_description.specs.declared.word.WordKind.TheVariants as wanted
use Rattle.cm_description.proofs.Conditions.{condition_some}
use Rattle.cm_description.proofs.Good.{IsLetters, IsGoodClass, IsGoodBody}
use Rattle.cm_lexer.proofs.Scanning.{IsAt, at_after, HasTokens, both, so_made, IsNone, nothing, space, IsToken, IsOne, IsWordText, word_token, colon_token, close_token, open_token, AreTwo, directive_tokens}
use Rattle.cm_description.proofs.Steps.{word_go, mark_go, options_go, options_end, maybe_options_go, maybe_options_none, maybe_class_go, maybe_class_none}
use Rattle.cm_description.proofs.Trimming.{trimmed_again, trimmed_all}

-- ---- tokens that are asked for

pub passes : (t : Token → Bool) (y : Token) → t y ≡ true → that t (Some y) ≡ Some y
passes t y h = ap (λ b. if b then Some y else None) h

fails : (t : Token → Bool) (y : Token) → t y ≡ false → that t (Some y) ≡ None
fails t y h = ap (λ b. if b then Some y else None) h

pub word_passes : {text : List ℕ} (want : WordKind) (whole : List ℕ) (y : Token) → IsToken whole kind.Word text y
    → allows want text ≡ true → is_word want whole y ≡ true
word_passes want whole y is h = ap₂ (word_by want) is.0 is.1 ∙ h

kind_passes : {text : List ℕ} (k other : TokenKind) (b : Bool) (whole : List ℕ) (y : Token)
    → IsToken whole other text y
    → same_kind k other ≡ b → has_kind k y ≡ b
kind_passes k other b whole y is h = ap (same_kind k) is.0 ∙ h

-- ---- what follows a line

-- neither a colon nor an opening parenthesis
pub record NoMark (xs : List Token) : Type 0 where
  pub colon : is_some (that (has_kind kind.Colon) (head_or xs None)) ≡ false
  pub paren : is_some (that (has_kind kind.Open) (head_or xs None)) ≡ false

pub no_mark : (y : Token) (xs : List Token) → has_kind kind.Colon y ≡ false → has_kind kind.Open y ≡ false
    → NoMark (y ∷ xs)
no_mark y xs h k = record {
  colon = ap (λ b. is_some (if b then Some y else None)) h;
  paren = ap (λ b. is_some (if b then Some y else None)) k;
}

-- ---- directives

-- the text of a directive is cut and read as it
pub record IsDirectiveText (modules : Bool) (b : LineBody) : Type 0 where
  pub word : list_all is_word_byte (directive_word b) ≡ true
  pub is : is_directive (directive_word b) ≡ true
  pub ends : (rest : List ℕ) → prefix_len is_word_byte (directive_rest b ++ 10 ∷ rest) ≡ 0
  pub line : list_all is_in_line (directive_rest b) ≡ true
  pub says : body_of modules (directive_of (directive_word b)) (directive_rest b) ≡ Some b

condition_printed : (cond : Cond) → IsRead cond → condition_of (32 ∷ printed_condition cond) ≡ Some cond
condition_printed cond r =
    condition_some (32 ∷ printed_condition cond) cond
    (subst (λ l. Phrase (condition 128) l None cond) (sym (lexemes_space 32 (printed_condition cond) refl))
    (printed_again cond r).again)

directive_text : (modules : Bool) (b : LineBody) → IsGoodBody modules b → IsDirectiveText modules b
unfolding directive_word is_directive directive_of
directive_text modules (body.If cond) good = record {
  word = refl;
  is = refl;
  ends = λ rest. refl;
  line = (printed_again cond good.0).line;
  says = ap (λ c. option_map body.If (allowed modules c)) (condition_printed cond good.0)
      ∙ ap (option_map body.If) good.1;
}
directive_text modules (body.Elif cond) good = record {
  word = refl;
  is = refl;
  ends = λ rest. refl;
  line = (printed_again cond good.0).line;
  says = ap (λ c. option_map body.Elif (allowed modules c)) (condition_printed cond good.0)
      ∙ ap (option_map body.Elif) good.1;
}
directive_text modules body.Else good =
    record { word = refl; is = refl; ends = λ rest. refl; line = refl; says = refl }
directive_text modules body.Endif good =
    record { word = refl; is = refl; ends = λ rest. refl; line = refl; says = refl }
directive_text modules (body.Error text) (raw, all, is) = record {
  word = refl;
  is = refl;
  ends = λ rest. refl;
  line = ap (list_all is_in_line) is ∙ trimmed_all is_in_line raw all;
  says = ap (λ (t : List ℕ). Some (body.Error t)) (ap (λ t. trimmed (32 ∷ t)) is ∙ trimmed_again raw ∙ sym is);
}
directive_text modules (body.Item number) good = absurd good

-- a line with this directive, at some token
abbrev pub LineReads : Bool → List ℕ → LineBody → Token → Token → Type 0
LineReads modules whole b y z =
    (file : List ℕ) (more : List Token) → read (line modules file whole y) (z ∷ more)
    ≡ Out.out (End.whole (record { at = place file y; body = b })) more

line_read : (modules : Bool) (whole : List ℕ) (b : LineBody) (y z : Token) → IsDirectiveText modules b
    → IsToken whole kind.Directive (35 ∷ directive_word b) y → IsToken whole kind.Rest (directive_rest b) z
    → LineReads modules whole b y z
unfolding line
line_read modules whole b y z d p q file more =
    let rest = mark_go kind.Rest z (z ∷ more)
    (passes (has_kind kind.Rest) z (kind_passes kind.Rest kind.Rest true whole z q refl)) in
    let says : body_of modules (directive_at whole y) (slice_of whole z) ≡ Some b =
    ap₂ (λ s t. body_of modules (directive_of (drop 1 s)) t) p.1 q.1 ∙ d.says in
    ap (λ o. chain o (λ r left. chain (read (said (body_of modules (directive_at whole y) (slice_of whole r))) left)
    (λ found left. Out.out (End.whole (at_line file y found)) left))) rest
    ∙ ap (λ f. chain (read (said f) more) (λ found left. Out.out (End.whole (at_line file y found)) left)) says
  where
    at_line : List ℕ → Token → LineBody → Line
    at_line file y b = record { at = place file y; body = b }

-- a directive's token and its rest are read so, and the first is no mark
abbrev pub DirectiveReads : Bool → List ℕ → LineBody → List Token → Type 0
DirectiveReads modules whole b ys =
    (y z : Token) × (ys ≡ y ∷ z ∷ []) × (y.kind ≡ kind.Directive) × LineReads modules whole b y z

two_read : (modules : Bool) (whole : List ℕ) (b : LineBody) (ys : List Token) → IsDirectiveText modules b
    → AreTwo whole (directive_word b) (directive_rest b) ys → DirectiveReads modules whole b ys
two_read modules whole b ys d (y, z, is, p, q) = (y, z, is, p.0, line_read modules whole b y z d p q)

pub directive_reads : {whole : List ℕ} {p : Point} (modules : Bool) (b : LineBody) (rest : List ℕ)
    → IsGoodBody modules b
    → IsAt whole p (directive_line b ++ rest)
    → HasTokens true true p (directive_line b) rest (DirectiveReads modules whole b)
directive_reads {whole} modules b rest good at =
    let d = directive_text modules b good in
    so_made (DirectiveReads modules whole b)
    (directive_tokens (directive_word b) (directive_rest b) rest at d.word d.is (d.ends rest) d.line)
    (λ ys two. two_read modules whole b ys d two)

-- ---- options

letter_word : (byte : ℕ) → is_letter byte ≡ true → is_word_byte byte ≡ true
letter_word byte h = rw h refl

letters_words : (bytes : List ℕ) → list_all is_letter bytes ≡ true → list_all is_word_byte bytes ≡ true
letters_words [] h = refl
letters_words (byte ∷ bytes) h = by (λ k. letters_words bytes k) (is_letter byte) refl h
  where
    by : (list_all is_letter bytes ≡ true → list_all is_word_byte bytes ≡ true) → (b : Bool) → is_letter byte ≡ b
        → (b && list_all is_letter bytes) ≡ true → list_all is_word_byte (byte ∷ bytes) ≡ true
    by next true e h = let one = letter_word byte e in let more = next h in rw (one, more) refl
    by next false e h = absurd (cc)

letters_text : (text : List ℕ) → IsLetters text → IsWordText text
letters_text [] l = absurd l
letters_text (byte ∷ bytes) l = (letter_word byte l.0, letters_words bytes l.1)

letters_all : (text : List ℕ) → IsLetters text → list_all is_letter text ≡ true
letters_all [] l = absurd l
letters_all (byte ∷ bytes) l = let one = l.0 in let more = l.1 in rw (one, more) refl

-- a word of letters for each of these
abbrev AreLetters : List ℕ → List (List ℕ) → List Token → Type 0
AreLetters whole [] ys = ys ≡ []
AreLetters whole (option ∷ more) ys =
    (y : Token) × (zs : List Token) × (ys ≡ y ∷ zs) × IsToken whole kind.Word option y × AreLetters whole more zs

options_read : (whole : List ℕ) (found more : List (List ℕ)) (ys : List Token) (c : Token) (rest : List Token)
    → AreAll IsLetters more → AreLetters whole more ys → c.kind ≡ kind.Close
    → read (options whole found) (ys ++ c ∷ rest) ≡ Out.out (End.whole (found ++ more)) (c ∷ rest)
options_read whole found [] ys c rest all is close =
    ap (λ l. read (options whole found) (l ++ c ∷ rest)) is
    ∙ options_end whole found (c ∷ rest)
    (fails (is_word wanted.Letters whole) c (ap (λ k. word_by wanted.Letters k (slice_of whole c)) close))
    ∙ ap (λ l. Out.out (End.whole l) (c ∷ rest)) (sym (append-nil found))
options_read whole found (option ∷ more) ys c rest all (y, zs, is, one, others) close =
    ap (λ l. read (options whole found) (l ++ c ∷ rest)) is
    ∙ options_go whole found y (y ∷ (zs ++ c ∷ rest))
    (passes (is_word wanted.Letters whole) y (word_passes wanted.Letters whole y one (letters_all option all.0)))
    ∙ ap (λ t. read (options whole (found ++ t ∷ [])) (zs ++ c ∷ rest)) one.1
    ∙ options_read whole (found ++ option ∷ []) more zs c rest all.1 others close
    ∙ ap (λ l. Out.out (End.whole l) (c ∷ rest)) (append_assoc found (option ∷ []) more)

-- what stands behind an option ends its word
option_ends : (more : List (List ℕ)) (rest : List ℕ)
    → prefix_len is_word_byte (flat_map option_text more ++ 41 ∷ rest) ≡ 0
option_ends [] rest = refl
option_ends (option ∷ more) rest = refl

more_tokens : {whole : List ℕ} (more : List (List ℕ)) {p : Point} (rest : List ℕ) → AreAll IsLetters more
    → IsAt whole p (flat_map option_text more ++ 41 ∷ rest)
    → HasTokens false false p (flat_map option_text more) (41 ∷ rest) (AreLetters whole more)
more_tokens {whole} [] {p} rest all at = nothing false p (41 ∷ rest)
more_tokens {whole} (option ∷ more) {p} rest all at =
    let tail = flat_map option_text more in
    let split : (option ++ tail) ++ 41 ∷ rest ≡ option ++ (tail ++ 41 ∷ rest) =
    append_assoc option tail (41 ∷ rest) in
    let here = subst (λ l. IsAt whole p (32 ∷ l)) split at in
    let next = at_after (32 ∷ []) (option ++ (tail ++ 41 ∷ rest)) here in
    let last = at_after option (tail ++ 41 ∷ rest) next in
    both (32 ∷ []) (option ++ tail) (AreLetters whole (option ∷ more)) (space p ((option ++ tail) ++ 41 ∷ rest))
    (both option tail (AreLetters whole (option ∷ more))
    (word_token false option (tail ++ 41 ∷ rest) next (letters_text option all.0) (option_ends more rest))
    (more_tokens more rest all.1 last)
    (λ ys zs one others. first_of ys zs one others))
    (λ ys zs is all. subst (λ l. AreLetters whole (option ∷ more) (l ++ zs)) (sym is) all)
  where
    first_of : (ys zs : List Token) → IsOne whole kind.Word option ys → AreLetters whole more zs
        → AreLetters whole (option ∷ more) (ys ++ zs)
    first_of ys zs (y, is, one) others = (y, zs, ap (λ l. l ++ zs) is, one, others)

-- ---- classes

abbrev OptionsRead : List ℕ → List (List ℕ) → List Token → Type 0
OptionsRead whole found ys =
    (more : List Token) → NoMark more → read (maybe_options whole) (ys ++ more) ≡ Out.out (End.whole found) more

none_read : (whole : List ℕ) (ys : List Token) → IsNone ys → OptionsRead whole [] ys
none_read whole ys is more mark =
    ap (λ l. read (maybe_options whole) (l ++ more)) is ∙ maybe_options_none whole more mark.paren

-- an option, further ones, and the closing parenthesis
some_read : (whole option : List ℕ) (others : List (List ℕ)) (y : Token) (zs : List Token) (c : Token)
    (more : List Token)
    → IsToken whole kind.Word option y → AreAll IsLetters (option ∷ others) → AreLetters whole others zs
    → IsToken whole kind.Close (41 ∷ []) c
    → read (some_options whole) (y ∷ (zs ++ c ∷ more)) ≡ Out.out (End.whole (option ∷ others)) more
unfolding some_options
some_read whole option others y zs c more one all are close =
    ap (λ o. chain o (λ first rest. chain (read (options whole (slice_of whole first ∷ [])) rest)
    (λ found rest. chain (read (mark kind.Close) rest) (λ _ rest. Out.out (End.whole found) rest))))
    (word_go wanted.Letters whole y (y ∷ (zs ++ c ∷ more))
    (passes (is_word wanted.Letters whole) y (word_passes wanted.Letters whole y one (letters_all option all.0))))
    ∙ ap (λ t. chain (read (options whole (t ∷ [])) (zs ++ c ∷ more))
    (λ found rest. chain (read (mark kind.Close) rest) (λ _ rest. Out.out (End.whole found) rest))) one.1
    ∙ ap (λ o. chain o (λ found rest. chain (read (mark kind.Close) rest) (λ _ rest. Out.out (End.whole found) rest)))
    (options_read whole (option ∷ []) others zs c more all.1 are close.0)
    ∙ ap (λ o. chain o (λ _ rest. Out.out (End.whole (option ∷ others)) rest))
    (mark_go kind.Close c (c ∷ more)
    (passes (has_kind kind.Close) c (kind_passes kind.Close kind.Close true whole c close refl)))

options_shut : (whole option : List ℕ) (others : List (List ℕ)) → AreAll IsLetters (option ∷ others)
    → (us ys zs cs : List Token)
    → IsOne whole kind.Open (40 ∷ []) us → IsOne whole kind.Word option ys → AreLetters whole others zs
    → IsOne whole kind.Close (41 ∷ []) cs → OptionsRead whole (option ∷ others) (us ++ (ys ++ (zs ++ cs)))
options_shut whole option others all us ys zs cs (u, us_is, opens) (y, ys_is, one) are (c, cs_is, close) more mark =
    let tokens : us ++ (ys ++ (zs ++ cs)) ≡ u ∷ (y ∷ (zs ++ c ∷ [])) =
    ap (λ l. l ++ (ys ++ (zs ++ cs))) us_is ∙ ap (λ l. u ∷ (l ++ (zs ++ cs))) ys_is
    ∙ ap (λ l. u ∷ (y ∷ (zs ++ l))) cs_is in
    let all_tokens : (us ++ (ys ++ (zs ++ cs))) ++ more ≡ u ∷ (y ∷ (zs ++ c ∷ more)) =
    ap (λ l. l ++ more) tokens ∙ ap (λ l. u ∷ (y ∷ l)) (append_assoc zs (c ∷ []) more) in
    ap (read (maybe_options whole)) all_tokens
    ∙ maybe_options_go whole (u ∷ (y ∷ (zs ++ c ∷ more)))
    (ap (λ b. is_some (if b then Some u else None)) (kind_passes kind.Open kind.Open true whole u opens refl))
    ∙ some_read whole option others y zs c more one all are close

no_star : (byte : ℕ) → is_letter byte ≡ true → (byte == 42) ≡ false
no_star byte h = grind (arith, nat_tests)

open_before : {whole : List ℕ} {p : Point} (option rest : List ℕ) → IsLetters option
    → IsAt whole p (40 ∷ (option ++ rest))
    → HasTokens false false p (40 ∷ []) (option ++ rest) (IsOne whole kind.Open (40 ∷ []))
open_before [] rest l at = absurd l
open_before (byte ∷ bytes) rest l at = open_token byte (bytes ++ rest) (no_star byte l.0) at

options_tokens : {whole : List ℕ} {p : Point} (found : List (List ℕ)) (rest : List ℕ) → AreAll IsLetters found
    → IsAt whole p (options_text found ++ 10 ∷ rest)
    → HasTokens false false p (options_text found) (10 ∷ rest) (OptionsRead whole found)
options_tokens {whole} {p} [] rest all at =
    so_made (OptionsRead whole []) (nothing false p (10 ∷ rest)) (λ ys is. none_read whole ys is)
options_tokens {whole} {p} (option ∷ others) rest all at =
    let more = flat_map option_text others in
    let end = 10 ∷ rest in
    let shut : (more ++ 41 ∷ []) ++ end ≡ more ++ 41 ∷ end = append_assoc more (41 ∷ []) end in
    let split : (option ++ (more ++ 41 ∷ [])) ++ end ≡ option ++ (more ++ 41 ∷ end) =
    append_assoc option (more ++ 41 ∷ []) end ∙ ap (λ l. option ++ l) shut in
    let at0 = subst (λ l. IsAt whole p (32 ∷ (40 ∷ l))) split at in
    let at1 = at_after (32 ∷ []) (40 ∷ (option ++ (more ++ 41 ∷ end))) at0 in
    let at2 = at_after (40 ∷ []) (option ++ (more ++ 41 ∷ end)) at1 in
    let at3 = at_after option (more ++ 41 ∷ end) at2 in
    let at4 = at_after more (41 ∷ end) at3 in
    let last = both more (41 ∷ [])
    (λ ys. (zs cs : List Token) × (ys ≡ zs ++ cs) × AreLetters whole others zs
    × IsOne whole kind.Close (41 ∷ []) cs)
    (more_tokens others end all.1 at3) (close_token end at4) (λ zs cs are close. (zs, cs, refl, are, close)) in
    let named = both option (more ++ 41 ∷ [])
    (λ ls. (ys zs cs : List Token) × (ls ≡ ys ++ (zs ++ cs)) × IsOne whole kind.Word option ys
    × AreLetters whole others zs × IsOne whole kind.Close (41 ∷ []) cs)
    (subst (λ l. HasTokens false false (after (after p (32 ∷ [])) (40 ∷ [])) option l (IsOne whole kind.Word option))
    (sym shut)
    (word_token false option (more ++ 41 ∷ end) at2 (letters_text option all.0) (option_ends others end))) last
    (λ ys ls one are. join ys ls one are) in
    let opened = both (40 ∷ []) (option ++ (more ++ 41 ∷ [])) (OptionsRead whole (option ∷ others))
    (subst (λ l. HasTokens false false (after p (32 ∷ [])) (40 ∷ []) l (IsOne whole kind.Open (40 ∷ []))) (sym split)
    (open_before option (more ++ 41 ∷ end) all.0 at1)) named (λ us ls one are. shut_all us ls one are) in
    both (32 ∷ []) (40 ∷ (option ++ (more ++ 41 ∷ []))) (OptionsRead whole (option ∷ others)) (space p _) opened
    (λ ys zs is reads. subst (λ l. OptionsRead whole (option ∷ others) (l ++ zs)) (sym is) reads)
  where
    join : (ys ls : List Token) → IsOne whole kind.Word option ys
        → ((zs cs : List Token) × (ls ≡ zs ++ cs) × AreLetters whole others zs × IsOne whole kind.Close (41 ∷ []) cs)
        → (os zs cs : List Token) × (ys ++ ls ≡ os ++ (zs ++ cs)) × IsOne whole kind.Word option os
        × AreLetters whole others zs × IsOne whole kind.Close (41 ∷ []) cs
    join ys ls one (zs, cs, is, are, close) = (ys, zs, cs, ap (λ l. ys ++ l) is, one, are, close)

    shut_all : (us ls : List Token) → IsOne whole kind.Open (40 ∷ []) us
        → ((ys zs cs : List Token) × (ls ≡ ys ++ (zs ++ cs)) × IsOne whole kind.Word option ys
        × AreLetters whole others zs × IsOne whole kind.Close (41 ∷ []) cs)
        → OptionsRead whole (option ∷ others) (us ++ ls)
    shut_all us ls one (ys, zs, cs, is, named, are, close) =
        subst (λ l. OptionsRead whole (option ∷ others) (us ++ l)) (sym is)
        (options_shut whole option others all us ys zs cs one named are close)

-- what stands behind a class ends its word
class_ends : (found : List (List ℕ)) (rest : List ℕ) → prefix_len is_word_byte (options_text found ++ 10 ∷ rest) ≡ 0
class_ends [] rest = refl
class_ends (option ∷ others) rest = refl

abbrev pub ClassReads : List ℕ → Option (List ℕ) → List (List ℕ) → List Token → Type 0
ClassReads whole name found ys =
    (more : List Token) → NoMark more → read (maybe_class whole) (ys ++ more)
    ≡ Out.out (End.whole (record { class = name; options = found })) more

no_class : (whole : List ℕ) (found : List (List ℕ)) (ys : List Token) → found ≡ [] → IsNone ys
    → ClassReads whole None found ys
no_class whole found ys none is more mark =
    ap (λ l. read (maybe_class whole) (l ++ more)) is ∙ maybe_class_none whole more mark.colon
    ∙ ap (λ (l : List (List ℕ)). Out.out (End.whole (classed l)) more) (sym none)
  where
    classed : List (List ℕ) → Classed
    classed l = record { class = None; options = l }

class_read : (whole name : List ℕ) (found : List (List ℕ)) (y : Token) (zs more : List Token) → IsLetters name
    → IsToken whole kind.Word name y → OptionsRead whole found zs → NoMark more
    → read (class whole) (y ∷ (zs ++ more)) ≡ Out.out (End.whole (record { class = Some name; options = found })) more
unfolding class
class_read whole name found y zs more letters one reads mark =
    ap (λ o. chain o (λ x rest. chain (read (maybe_options whole) rest)
    (λ l rest. Out.out (End.whole (classed (slice_of whole x) l)) rest)))
    (word_go wanted.Letters whole y (y ∷ (zs ++ more))
    (passes (is_word wanted.Letters whole) y (word_passes wanted.Letters whole y one (letters_all name letters))))
    ∙ ap (λ o. chain o (λ l rest. Out.out (End.whole (classed (slice_of whole y) l)) rest)) (reads more mark)
    ∙ ap (λ t. Out.out (End.whole (classed t found)) more) one.1
  where
    classed : List ℕ → List (List ℕ) → Classed
    classed t l = record { class = Some t; options = l }

some_class : (whole name : List ℕ) (found : List (List ℕ)) → IsLetters name → (us ys zs : List Token)
    → IsOne whole kind.Colon (58 ∷ []) us → IsOne whole kind.Word name ys → OptionsRead whole found zs
    → ClassReads whole (Some name) found (us ++ (ys ++ zs))
some_class whole name found letters us ys zs (u, us_is, colon) (y, ys_is, one) reads more mark =
    let tokens : us ++ (ys ++ zs) ≡ u ∷ (y ∷ zs) = ap (λ l. l ++ (ys ++ zs)) us_is ∙ ap (λ l. u ∷ (l ++ zs)) ys_is in
    ap (λ l. read (maybe_class whole) (l ++ more)) tokens
    ∙ maybe_class_go whole (u ∷ (y ∷ (zs ++ more)))
    (ap (λ b. is_some (if b then Some u else None)) (kind_passes kind.Colon kind.Colon true whole u colon refl))
    ∙ class_read whole name found y zs more letters one reads mark

pub class_tokens : {whole : List ℕ} {p : Point} (name : Option (List ℕ)) (found : List (List ℕ)) (rest : List ℕ)
    → IsGoodClass name found
    → IsAt whole p (class_text name found ++ 10 ∷ rest)
    → HasTokens false false p (class_text name found) (10 ∷ rest) (ClassReads whole name found)
class_tokens {whole} {p} None found rest good at =
    so_made (ClassReads whole None found) (nothing false p (10 ∷ rest)) (λ ys is. no_class whole found ys good is)
class_tokens {whole} {p} (Some name) found rest good at =
    let end = 10 ∷ rest in
    let options = options_text found in
    let split : (name ++ options) ++ end ≡ name ++ (options ++ end) = append_assoc name options end in
    let at0 = subst (λ l. IsAt whole p (32 ∷ (58 ∷ (32 ∷ l)))) split at in
    let at1 = at_after (32 ∷ []) (58 ∷ (32 ∷ (name ++ (options ++ end)))) at0 in
    let at2 = at_after (58 ∷ []) (32 ∷ (name ++ (options ++ end))) at1 in
    let at3 = at_after (32 ∷ []) (name ++ (options ++ end)) at2 in
    let at4 = at_after name (options ++ end) at3 in
    let named = both name options (λ ls. (ys zs : List Token) × (ls ≡ ys ++ zs) × IsOne whole kind.Word name ys
    × OptionsRead whole found zs)
    (word_token false name (options ++ end) at3 (letters_text name good.0) (class_ends found rest))
    (options_tokens found rest good.1 at4) (λ ys zs one reads. (ys, zs, refl, one, reads)) in
    let spaced = both (32 ∷ []) (name ++ options)
    (λ ls. (ys zs : List Token) × (ls ≡ ys ++ zs) × IsOne whole kind.Word name ys × OptionsRead whole found zs)
    (space _ ((name ++ options) ++ end)) named
    (λ us ls is are. subst (λ l. (ys zs : List Token) × (l ++ ls ≡ ys ++ zs) × IsOne whole kind.Word name ys
    × OptionsRead whole found zs) (sym is) are) in
    let colon = both (58 ∷ []) (32 ∷ (name ++ options)) (ClassReads whole (Some name) found)
    (colon_token (32 ∷ ((name ++ options) ++ end))
    (subst (λ l. IsAt whole (after p (32 ∷ [])) (58 ∷ (32 ∷ l))) (sym split) at1)) spaced
    (λ us ls one are. join us ls one are) in
    both (32 ∷ []) (58 ∷ (32 ∷ (name ++ options))) (ClassReads whole (Some name) found) (space p _) colon
    (λ ys zs is reads. subst (λ l. ClassReads whole (Some name) found (l ++ zs)) (sym is) reads)
  where
    join : (us ls : List Token) → IsOne whole kind.Colon (58 ∷ []) us
        → ((ys zs : List Token) × (ls ≡ ys ++ zs) × IsOne whole kind.Word name ys × OptionsRead whole found zs)
        → ClassReads whole (Some name) found (us ++ ls)
    join us ls one (ys, zs, is, named, reads) =
        subst (λ l. ClassReads whole (Some name) found (us ++ l)) (sym is)
        (some_class whole name found good.0 us ys zs one named reads)
