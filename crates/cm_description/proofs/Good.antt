-- What a description has that was read from a text: parts of which the printed text is read again.
use Rattle.std.proofs.Common.{◌≡◌, ℕ, ◌-◌, ◌≤◌, ◌||◌, ◌&&◌, not, Bool, true, false, if◌then◌else◌, Option, None, Some, option_map, List, [], ◌∷◌, ◌++◌, refl, ap, sym, ◌∙◌, subst, take, length, length-append, arith}
use Rattle.std.specs.List.{list_all}
use Rattle.std.proofs.lemmas.Bool.Decides.{nat_tests}
use Rattle.std.proofs.Math.Seq.{take-append_seam}
use Rattle.cm_base.specs.ByteClasses.{is_letter}
use Rattle.cm_base.specs.declared.diag.Place.{Place}
use Rattle.cm_base.specs.declared.record.Namespace.{Namespace}
use Rattle.cm_lexer.specs.Bytes.{is_word_byte, is_quotable, is_in_line}
use Rattle.cm_lexer.specs.Spelling.{IsSpelled, slice_of}
use Rattle.cm_lexer.specs.Tokens.{scan_of}
use Rattle.cm_lexer.specs.declared.token.Token.{Token}
use Rattle.cm_lexer.specs.declared.token.TokenKind.{TokenKind}
use Rattle.cm_lexer.specs.declared.token.TokenKind.TheVariants as kind
use Rattle.cm_conditions.specs.Answers.{IsRead}
use Rattle.cm_conditions.specs.declared.cond.Cond.{Cond}
use Rattle.cm_conditions.specs.declared.line.Line.{Line}
use Rattle.cm_conditions.specs.declared.line.LineBody.{LineBody}
use Rattle.cm_conditions.specs.declared.line.LineBody.TheVariants as body
use Rattle.cm_conditions.proofs.Makes.{AreAll, all_both, Makes, makes_pure, makes_refuse, makes_bind, makes_on, makes_within, makes_many}
use Rattle.cm_description.specs.Answers.{IsDescription}
use Rattle.cm_description.specs.Grammar.{word, mark, allowed, body_of, said, line, item, no_exports, entry, export_step, exports, no_members, options, some_options, maybe_options, class, maybe_class, member, member_step, members, description}
use Rattle.cm_description.specs.Modules.{condition_of, names_module}
use Rattle.cm_description.specs.Words.{is_identifier, word_by, is_word, space_at, same_kind, is_path, path_by, trimmed, directive_at}
use Rattle.cm_description.specs.declared.description.Description.{Description}
use Rattle.cm_description.specs.declared.description.Entry.{Entry}
use Rattle.cm_description.specs.declared.description.MemberEntry.{MemberEntry}
use Rattle.cm_description.specs.declared.directive.Directive.{Directive}
use Rattle.cm_description.specs.declared.directive.Directive.TheVariants as directive
use Rattle.cm_description.specs.declared.found.Classed.{Classed}
use Rattle.cm_description.specs.declared.found.Exports.{Exports}
use Rattle.cm_description.specs.declared.found.Members.{Members}
use Rattle.cm_description.specs.declared.word.WordKind.{WordKind}
use Rattle.cm_description.specs.declared.word.WordKind.TheVariants as wanted
use Rattle.cm_description.proofs.Conditions.{condition_is}
use Rattle.cm_lexer.proofs.Written.{IsWritten, AreWritten, HasBytes, all_written}

-- ---- the parts

-- a word of letters that isn't empty
abbrev pub IsLetters : List ℕ → Type 0
IsLetters [] = ⊥
IsLetters (byte ∷ bytes) = (is_letter byte ≡ true) × (list_all is_letter bytes ≡ true)

abbrev pub IsGoodClass : Option (List ℕ) → List (List ℕ) → Type 0
IsGoodClass None options = options ≡ []
IsGoodClass (Some class) options = IsLetters class × AreAll IsLetters options

pub record IsGoodMember (m : MemberEntry) : Type 0 where
  pub path : list_all is_quotable m.path ≡ true
  pub class : IsGoodClass m.class m.options

abbrev pub IsGoodEntry : Entry → Type 0
IsGoodEntry e = is_identifier e.name.name ≡ true

-- a directive of a list in which conditions may ask for modules, or not
abbrev pub IsGoodBody : Bool → LineBody → Type 0
IsGoodBody modules (body.If cond) = IsRead cond × (allowed modules (Some cond) ≡ Some cond)
IsGoodBody modules (body.Elif cond) = IsRead cond × (allowed modules (Some cond) ≡ Some cond)
IsGoodBody modules body.Else = Unit {0}
IsGoodBody modules body.Endif = Unit {0}
IsGoodBody modules (body.Error text) = (rest : List ℕ) × (list_all is_in_line rest ≡ true) × (text ≡ trimmed rest)
IsGoodBody modules (body.Item number) = ⊥

-- items and directives, one after another
pub data Good {A : Type 0} (IsGood : A → Type 0) (at : A → Place) (modules : Bool) : List A → List Line → Type 0 where
  none : Good IsGood at modules [] []
  one : (items : List A) (lines : List Line) (a : A) → Good IsGood at modules items lines → IsGood a
      → Good IsGood at modules (items ++ a ∷ []) (lines ++ item (at a) (length items) ∷ [])
  other : (items : List A) (lines : List Line) (l : Line) → Good IsGood at modules items lines
      → IsGoodBody modules l.body → Good IsGood at modules items (lines ++ l ∷ [])

abbrev pub GoodExports : List Entry → List Line → Type 0
GoodExports = Good IsGoodEntry (λ (e : Entry). e.at) true

abbrev pub GoodMembers : List MemberEntry → List Line → Type 0
GoodMembers = Good IsGoodMember (λ (m : MemberEntry). m.at) false

pub record IsGood (d : Description) : Type 0 where
  pub exports : GoodExports d.entries d.export_lines
  pub members : GoodMembers d.members d.member_lines

-- ---- tokens

rest_in_line : (k : TokenKind) (text : List ℕ) → same_kind kind.Rest k ≡ true → IsSpelled k text
    → list_all is_in_line text ≡ true
rest_in_line kind.Rest text h s = s
rest_in_line kind.Word text h s = absurd (cc)
rest_in_line kind.Quoted text h s = absurd (cc)
rest_in_line kind.Colon text h s = absurd (cc)
rest_in_line kind.Open text h s = absurd (cc)
rest_in_line kind.Close text h s = absurd (cc)
rest_in_line kind.Directive text h s = absurd (cc)

some_letters : (text : List ℕ) → list_all is_letter text ≡ true → 1 ≤ length text → IsLetters text
some_letters [] h n = absurd (omega (arith, n))
some_letters (byte ∷ bytes) h n = by (is_letter byte) refl h
  where
    by : (b : Bool) → is_letter byte ≡ b → (b && list_all is_letter bytes) ≡ true → IsLetters (byte ∷ bytes)
    by true e h = (e, h)
    by false e h = absurd (cc)

word_letters : (k : TokenKind) (text : List ℕ) → word_by wanted.Letters k text ≡ true → HasBytes k text
    → IsLetters text
word_letters kind.Word text h n = some_letters text h n
word_letters kind.Quoted text h n = absurd (cc)
word_letters kind.Colon text h n = absurd (cc)
word_letters kind.Open text h n = absurd (cc)
word_letters kind.Close text h n = absurd (cc)
word_letters kind.Directive text h n = absurd (cc)
word_letters kind.Rest text h n = absurd (cc)

word_identifier : (k : TokenKind) (text : List ℕ) → word_by wanted.Identifier k text ≡ true
    → is_identifier text ≡ true
word_identifier kind.Word text h = h
word_identifier kind.Quoted text h = absurd (cc)
word_identifier kind.Colon text h = absurd (cc)
word_identifier kind.Open text h = absurd (cc)
word_identifier kind.Close text h = absurd (cc)
word_identifier kind.Directive text h = absurd (cc)
word_identifier kind.Rest text h = absurd (cc)

word_quotable : (byte : ℕ) → is_word_byte byte ≡ true → is_quotable byte ≡ true
word_quotable byte h = grind (arith, nat_tests)

pub words_quotable : (text : List ℕ) → list_all is_word_byte text ≡ true → list_all is_quotable text ≡ true
words_quotable [] h = refl
words_quotable (byte ∷ bytes) h = by (λ k. words_quotable bytes k) (is_word_byte byte) refl h
  where
    by : (list_all is_word_byte bytes ≡ true → list_all is_quotable bytes ≡ true) → (b : Bool) → is_word_byte byte ≡ b
        → (b && list_all is_word_byte bytes) ≡ true → list_all is_quotable (byte ∷ bytes) ≡ true
    by next true e h = let one = word_quotable byte e in let more = next h in rw (one, more) refl
    by next false e h = absurd (cc)

-- what stands between the quotes
pub between_quotes : (inside : List ℕ) → path_by kind.Quoted (34 ∷ (inside ++ 34 ∷ [])) ≡ inside
between_quotes inside =
    let len : length (34 ∷ (inside ++ 34 ∷ [])) - 2 ≡ length inside = rw length-append (omega arith) in
    ap (λ n. take n (inside ++ 34 ∷ [])) len ∙ take-append_seam inside (34 ∷ [])

path_quotable : (k : TokenKind) (text : List ℕ) → (same_kind kind.Word k || same_kind kind.Quoted k) ≡ true
    → IsSpelled k text → list_all is_quotable (path_by k text) ≡ true
path_quotable kind.Word text h s = words_quotable text s
path_quotable kind.Quoted text h (inside, is, all) =
    ap (λ t. list_all is_quotable (path_by kind.Quoted t)) is ∙ ap (list_all is_quotable) (between_quotes inside)
    ∙ all
path_quotable kind.Colon text h s = absurd (cc)
path_quotable kind.Open text h s = absurd (cc)
path_quotable kind.Close text h s = absurd (cc)
path_quotable kind.Directive text h s = absurd (cc)
path_quotable kind.Rest text h s = absurd (cc)

-- ---- directives

condition_good : (modules : Bool) (rest : List ℕ) (make : Cond → LineBody) (found : Option Cond) (b : LineBody)
    → condition_of rest ≡ found → option_map make (allowed modules found) ≡ Some b
    → (cond : Cond) × (b ≡ make cond) × IsRead cond × (allowed modules (Some cond) ≡ Some cond)
condition_good modules rest make None b e h = absurd (cc)
condition_good modules rest make (Some cond) b e h = by (modules || not (names_module cond)) refl h
  where
    by : (t : Bool) → (modules || not (names_module cond)) ≡ t
        → option_map make (if t then Some cond else None) ≡ Some b
        → (cond : Cond) × (b ≡ make cond) × IsRead cond × (allowed modules (Some cond) ≡ Some cond)
    by true is h = (cond, cc, (rest, condition_is rest cond e), rw is refl)
    by false is h = absurd (cc)

body_good : (modules : Bool) (d : Directive) (rest : List ℕ) (b : LineBody) → list_all is_in_line rest ≡ true
    → body_of modules d rest ≡ Some b → IsGoodBody modules b
body_good modules directive.If rest b all h =
    let found = condition_good modules rest body.If (condition_of rest) b refl h in
    subst (IsGoodBody modules) (sym found.1) (found.2, found.3)
body_good modules directive.Elif rest b all h =
    let found = condition_good modules rest body.Elif (condition_of rest) b refl h in
    subst (IsGoodBody modules) (sym found.1) (found.2, found.3)
body_good modules directive.Else rest b all h = let is : body.Else ≡ b = cc in subst (IsGoodBody modules) is tt
body_good modules directive.Endif rest b all h = let is : body.Endif ≡ b = cc in subst (IsGoodBody modules) is tt
body_good modules directive.Error rest b all h =
    let is : body.Error (trimmed rest) ≡ b = cc in subst (IsGoodBody modules) is (rest, all, refl)

said_makes : {text : List ℕ} {before : List Token} (modules : Bool) (found : Option LineBody)
    → ((b : LineBody) → found ≡ Some b → IsGoodBody modules b)
    → Makes (IsWritten text) before (said found) (λ ys b. IsGoodBody modules b)
said_makes modules None good = makes_within (λ h. makes_refuse)
said_makes modules (Some b) good = makes_pure (good b refl)

abbrev GoodLine : Bool → List Token → Line → Type 0
GoodLine modules ys l = IsGoodBody modules l.body

rest_makes : (text : List ℕ) (before : List Token)
    → Makes (IsWritten text) before (mark kind.Rest) (λ ys r. list_all is_in_line (slice_of text r) ≡ true)
unfolding mark
rest_makes text before = makes_on
    (λ x h w. makes_pure (rest_in_line x.kind (slice_of text x) h w.spelled)) makes_refuse

line_makes : (modules : Bool) (file text : List ℕ) (x : Token) (before : List Token)
    → Makes (IsWritten text) before (line modules file text x) (GoodLine modules)
unfolding line
line_makes modules file text x before =
    makes_bind (rest_makes text before) (λ ys r all.
    makes_bind (said_makes modules (body_of modules (directive_at text x) (slice_of text r))
    (λ b h. body_good modules (directive_at text x) (slice_of text r) b all h))
    (λ zs b good. makes_pure good))

-- ---- entries

word_makes : (want : WordKind) (text : List ℕ) (before : List Token)
    → Makes (IsWritten text) before (word want text) (λ ys x. (is_word want text x ≡ true) × IsWritten text x)
unfolding word
word_makes want text before = makes_on (λ x h w. makes_pure (h, w)) makes_refuse

abbrev GoodEntry : List Token → Entry → Type 0
GoodEntry ys e = IsGoodEntry e

entry_makes : (file text : List ℕ) (x : Token) (space : Namespace) (before : List Token)
    → Makes (IsWritten text) before (entry file text x space) GoodEntry
unfolding entry
entry_makes file text x space before =
    makes_bind (word_makes wanted.Identifier text before)
    (λ ys name is. makes_pure (word_identifier name.kind (slice_of text name) is.0))

abbrev GoodFoundExports : List Token → Exports → Type 0
GoodFoundExports ys found = GoodExports found.entries found.lines

export_makes : (file text : List ℕ) (found : Exports) (x : Token) (space : Option Namespace) (before : List Token)
    → GoodExports found.entries found.lines
    → Makes (IsWritten text) before (export_step file text found x space) GoodFoundExports
unfolding export_step
export_makes file text found x (Some space) before good =
    makes_bind (entry_makes file text x space before)
    (λ ys e is. makes_pure (Good.one found.entries found.lines e good is))
export_makes file text found x None before good =
    makes_bind (line_makes true file text x before)
    (λ ys l is. makes_pure (Good.other found.entries found.lines l good is))

exports_make : (file text : List ℕ) (before : List Token)
    → Makes (IsWritten text) before (exports file text no_exports) GoodFoundExports
unfolding exports
exports_make file text before =
    makes_many (λ before found x good h w. export_makes file text found x (space_at text x) _ good) Good.none

-- ---- members

abbrev AllLetters : List Token → List (List ℕ) → Type 0
AllLetters ys found = AreAll IsLetters found

options_make : (text : List ℕ) (found : List (List ℕ)) (before : List Token) → AreAll IsLetters found
    → Makes (IsWritten text) before (options text found) AllLetters
unfolding options
options_make text found before all =
    makes_many (λ before found x all h w. makes_pure (all_both IsLetters found (slice_of text x ∷ []) all
    (word_letters x.kind (slice_of text x) h w.some, tt))) all

some_options_make : (text : List ℕ) (before : List Token)
    → Makes (IsWritten text) before (some_options text) AllLetters
unfolding some_options mark
some_options_make text before =
    makes_bind (word_makes wanted.Letters text before) (λ ys first is.
    makes_bind (options_make text (slice_of text first ∷ []) ys
    (word_letters first.kind (slice_of text first) is.0 is.1.some, tt)) (λ zs found all.
    makes_bind {P = λ ys x. Unit {0}} (makes_on (λ x h w. makes_pure tt) makes_refuse) (λ us x h. makes_pure all)))

maybe_options_make : (text : List ℕ) (before : List Token)
    → Makes (IsWritten text) before (maybe_options text) AllLetters
unfolding maybe_options
maybe_options_make text before = makes_on (λ x h w. some_options_make text _) (makes_pure tt)

abbrev GoodClassed : List Token → Classed → Type 0
GoodClassed ys found = IsGoodClass found.class found.options

class_makes : (text : List ℕ) (before : List Token) → Makes (IsWritten text) before (class text) GoodClassed
unfolding class
class_makes text before =
    makes_bind (word_makes wanted.Letters text before) (λ ys name is.
    makes_bind (maybe_options_make text ys) (λ zs found all.
    makes_pure (word_letters name.kind (slice_of text name) is.0 is.1.some, all)))

maybe_class_makes : (text : List ℕ) (before : List Token)
    → Makes (IsWritten text) before (maybe_class text) GoodClassed
unfolding maybe_class
maybe_class_makes text before = makes_on (λ x h w. class_makes text _) (makes_pure refl)

abbrev GoodMember : List Token → MemberEntry → Type 0
GoodMember ys m = IsGoodMember m

member_makes : (file text : List ℕ) (x : Token) (before : List Token) → is_path x ≡ true → IsWritten text x
    → Makes (IsWritten text) before (member file text x) GoodMember
unfolding member
member_makes file text x before h w =
    makes_bind (maybe_class_makes text before) (λ ys found good.
    makes_pure (record { path = path_quotable x.kind (slice_of text x) h w.spelled; class = good }))

abbrev GoodFoundMembers : List Token → Members → Type 0
GoodFoundMembers ys found = GoodMembers found.members found.lines

member_step_makes : (file text : List ℕ) (found : Members) (x : Token) (path : Bool) (before : List Token)
    → is_path x ≡ path → IsWritten text x → GoodMembers found.members found.lines
    → Makes (IsWritten text) before (member_step file text found x path) GoodFoundMembers
unfolding member_step
member_step_makes file text found x true before h w good =
    makes_bind (member_makes file text x before h w)
    (λ ys m is. makes_pure (Good.one found.members found.lines m good is))
member_step_makes file text found x false before h w good =
    makes_bind (line_makes false file text x before)
    (λ ys l is. makes_pure (Good.other found.members found.lines l good is))

members_make : (file text : List ℕ) (before : List Token)
    → Makes (IsWritten text) before (members file text no_members) GoodFoundMembers
unfolding members
members_make file text before =
    makes_many (λ before found x good h w. member_step_makes file text found x (is_path x) _ refl w good) Good.none

-- ---- descriptions

description_makes : (file text : List ℕ) → Makes (IsWritten text) [] (description file text) (λ ys d. IsGood d)
unfolding description
description_makes file text =
    makes_bind (word_makes wanted.Kind text []) (λ ys begun is.
    makes_bind (exports_make file text ys) (λ zs exported good.
    makes_bind (word_makes wanted.Is text zs) (λ us between is.
    makes_bind (members_make file text us) (λ vs found also.
    makes_pure (record { exports = good; members = also })))))

as_all : (text : List ℕ) (xs : List Token) → AreWritten text xs → AreAll (IsWritten text) xs
as_all text [] w = tt
as_all text (x ∷ xs) w = (w.0, as_all text xs w.1)

-- a description of some text has good parts
pub description_good : (file text : List ℕ) (d : Description) → IsDescription file text d → IsGood d
description_good file text d is =
    (description_makes file text).made (scan_of text).tokens _ d (as_all text _ (all_written text)) is.phrase
