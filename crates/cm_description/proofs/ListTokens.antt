-- The tokens of printed lists, and how the grammar reads them.
use Rattle.std.proofs.Common.{◌≡◌, ℕ, zero, suc, ◌≤◌, ◌<◌, ◌||◌, ◌&&◌, Bool, true, false, if◌then◌else◌, Option, None, Some, is_some, List, [], ◌∷◌, ◌++◌, refl, ap, ap₂, sym, ◌∙◌, subst, length, length-append, map, slice_get, append_assoc, append-nil, arith}
use Rattle.std.specs.List.{prefix_len, list_all}
use Rattle.std.proofs.lemmas.Bool.Decides.{nat_tests}
use Rattle.std.proofs.lemmas.Grind.{flat_map-append}
use Rattle.std.proofs.lemmas.List.{map-append, length-map}
use Rattle.cm_base.specs.ByteClasses.{is_letter, is_identifier_byte}
use Rattle.cm_base.specs.declared.diag.Place.{Place}
use Rattle.cm_base.specs.declared.record.Namespace.{Namespace}
use Rattle.cm_base.specs.declared.record.Namespace.TheVariants as space_is
use Rattle.grammars.specs.Grammar.{End}
use Rattle.grammars.specs.Reading.{Out, chain, read}
use Rattle.cm_lexer.specs.Bytes.{is_word_byte, is_quotable}
use Rattle.cm_lexer.specs.Spelling.{slice_of}
use Rattle.cm_lexer.specs.declared.point.Point.{Point}
use Rattle.cm_lexer.specs.declared.token.Token.{Token}
use Rattle.cm_lexer.specs.declared.token.TokenKind.TheVariants as kind
use Rattle.cm_conditions.specs.Grammar.{space_of}
use Rattle.cm_conditions.specs.Printing.{space_word}
use Rattle.cm_conditions.specs.declared.line.Line.{Line}
use Rattle.cm_conditions.specs.declared.line.LineBody.{LineBody}
use Rattle.cm_conditions.specs.declared.line.LineBody.TheVariants as body
use Rattle.cm_conditions.proofs.Makes.{AreAll, all_both}
use Rattle.cm_description.specs.Again.{unplaced_line, unplaced_entry, unplaced_member}
use Rattle.cm_description.specs.Grammar.{item, entry, export_step, exports, no_exports, with_entry, with_export_line, member, member_step, members, no_members, with_member, with_member_line}
use Rattle.cm_description.specs.Printing.{directive_line, is_plain, path_text, class_text, member_text, entry_text, item_line, item_line_of, line_text, listed}
use Rattle.cm_description.specs.WellFormed.{IsItemBelow}
use Rattle.cm_description.specs.Words.{place, is_identifier, is_word, space_by, space_at, same_kind, has_kind, is_path, path_by, path_of, begins_export, begins_member}
use Rattle.cm_description.specs.declared.description.Entry.{Entry}
use Rattle.cm_description.specs.declared.description.MemberEntry.{MemberEntry}
use Rattle.cm_description.specs.declared.found.Classed.{Classed}
use Rattle.cm_description.specs.declared.found.Exports.{Exports}
use Rattle.cm_description.specs.declared.found.Members.{Members}
use Rattle.cm_description.specs.declared.word.WordKind.TheVariants as wanted
use Rattle.cm_description.proofs.Good.{Good, GoodExports, GoodMembers, IsGoodMember, IsGoodEntry, IsGoodBody, between_quotes}
use Rattle.cm_description.proofs.LineTokens.{NoMark, no_mark, word_passes, passes, DirectiveReads, directive_reads, ClassReads, class_tokens}
use Rattle.cm_lexer.proofs.Scanning.{IsAt, at_after, HasTokens, both, so_made, IsNone, nothing, first_space, space, line_end, IsToken, IsOne, IsWordText, word_token, quoted_token}
use Rattle.cm_description.proofs.Steps.{word_go, exports_go, members_go}

-- ---- the lines of lists

get_end : {A : Type 0} (items : List A) (a : A) → slice_get (items ++ a ∷ []) (length items) ≡ Some a
get_end [] a = refl
get_end (b ∷ items) a = get_end items a

get_before : {A : Type 0} (items more : List A) (n : ℕ) → n < length items
    → slice_get (items ++ more) n ≡ slice_get items n
get_before [] more n h = absurd (omega arith)
get_before (b ∷ items) more zero h = refl
get_before (b ∷ items) more (suc n) h = get_before items more n (omega arith)

abbrev BelowAll : ℕ → List Line → Type 0
BelowAll n lines = AreAll (λ (l : Line). IsItemBelow n l.body) lines

body_below : (n m : ℕ) (b : LineBody) → n ≤ m → IsItemBelow n b → IsItemBelow m b
body_below n m (body.Item number) le h = omega (arith, h)
body_below n m (body.If cond) le h = tt
body_below n m (body.Elif cond) le h = tt
body_below n m body.Else le h = tt
body_below n m body.Endif le h = tt
body_below n m (body.Error text) le h = tt

all_below : (n m : ℕ) (lines : List Line) → n ≤ m → BelowAll n lines → BelowAll m lines
all_below n m [] le h = tt
all_below n m (l ∷ lines) le h = (body_below n m l.body le h.0, all_below n m lines le h.1)

good_below : (n : ℕ) (modules : Bool) (b : LineBody) → IsGoodBody modules b → IsItemBelow n b
good_below n modules (body.Item number) h = absurd h
good_below n modules (body.If cond) h = tt
good_below n modules (body.Elif cond) h = tt
good_below n modules body.Else h = tt
good_below n modules body.Endif h = tt
good_below n modules (body.Error text) h = tt

items_below : {A : Type 0} {IsGood : A → Type 0} {at : A → Place} {modules : Bool} (items : List A)
    (lines : List Line)
    → Good IsGood at modules items lines → BelowAll (length items) lines
items_below _ _ Good.none = tt
items_below _ _ (Good.one items lines a good is) =
    let more : length (items ++ a ∷ []) ≡ suc (length items) = rw length-append (omega arith) in
    let here : length items < length (items ++ a ∷ []) = omega (arith, more) in
    all_both _ lines _ (all_below (length items) _ lines (omega (arith, more)) (items_below items lines good))
    (here, tt)
items_below {modules = modules} _ _ (Good.other items lines l good is) =
    all_both _ lines (l ∷ []) (items_below items lines good) (good_below (length items) modules l.body is, tt)

body_more : {A : Type 0} (text : A → List ℕ) (items : List A) (a : A) (b : LineBody) → IsItemBelow (length items) b
    → line_text text (items ++ a ∷ []) b ≡ line_text text items b
body_more text items a (body.Item number) h = ap (item_line_of text) (get_before items (a ∷ []) number h)
body_more text items a (body.If cond) h = refl
body_more text items a (body.Elif cond) h = refl
body_more text items a body.Else h = refl
body_more text items a body.Endif h = refl
body_more text items a (body.Error error) h = refl

listed_more : {A : Type 0} (text : A → List ℕ) (items : List A) (a : A) (lines : List Line)
    → BelowAll (length items) lines
    → listed text (items ++ a ∷ []) lines ≡ listed text items lines
listed_more text items a [] h = refl
listed_more text items a (l ∷ lines) h =
    ap₂ ◌++◌ (body_more text items a l.body h.0) (listed_more text items a lines h.1)

-- one line more
listed_behind : {A : Type 0} (text : A → List ℕ) (items : List A) (lines : List Line) (l : Line)
    → listed text items (lines ++ l ∷ []) ≡ listed text items lines ++ line_text text items l.body
listed_behind text items lines l =
    flat_map-append (λ (k : Line). line_text text items k.body) lines (l ∷ [])
    ∙ ap (λ t. listed text items lines ++ t) (append-nil (line_text text items l.body))

listed_one : {A : Type 0} (text : A → List ℕ) (items : List A) (lines : List Line) (a : A) (at : Place)
    → BelowAll (length items) lines
    → listed text (items ++ a ∷ []) (lines ++ item at (length items) ∷ []) ≡ listed text items lines ++ item_line
    (text a)
listed_one text items lines a at below =
    listed_behind text (items ++ a ∷ []) lines (item at (length items))
    ∙ ap₂ ◌++◌ (listed_more text items a lines below) (ap (item_line_of text) (get_end items a))

directive_text_of : {A : Type 0} (text : A → List ℕ) (items : List A) (modules : Bool) (b : LineBody)
    → IsGoodBody modules b
    → line_text text items b ≡ directive_line b
directive_text_of text items modules (body.Item number) h = absurd h
directive_text_of text items modules (body.If cond) h = refl
directive_text_of text items modules (body.Elif cond) h = refl
directive_text_of text items modules body.Else h = refl
directive_text_of text items modules body.Endif h = refl
directive_text_of text items modules (body.Error error) h = refl

listed_line : {A : Type 0} (text : A → List ℕ) (items : List A) (lines : List Line) (l : Line) (modules : Bool)
    → IsGoodBody modules l.body
    → listed text items (lines ++ l ∷ []) ≡ listed text items lines ++ directive_line l.body
listed_line text items lines l modules h =
    listed_behind text items lines l
    ∙ ap (λ t. listed text items lines ++ t) (directive_text_of text items modules l.body h)

-- ---- members

-- a path's token
record PathIs (whole path : List ℕ) (y : Token) : Type 0 where
  is : is_path y ≡ true
  text : path_of whole y ≡ path
  colon : has_kind kind.Colon y ≡ false
  paren : has_kind kind.Open y ≡ false

abbrev IsPathToken : List ℕ → List ℕ → List Token → Type 0
IsPathToken whole path ys = (y : Token) × (ys ≡ y ∷ []) × PathIs whole path y

plain_word : (path : List ℕ) → is_plain path ≡ true → IsWordText path
plain_word [] h = absurd (cc)
plain_word (byte ∷ bytes) h = by (is_word_byte byte) refl h
  where
    by : (b : Bool) → is_word_byte byte ≡ b → (b && list_all is_word_byte bytes) ≡ true → IsWordText (byte ∷ bytes)
    by true e h = (e, h)
    by false e h = absurd (cc)

word_path : (whole path : List ℕ) (ys : List Token) → IsOne whole kind.Word path ys → IsPathToken whole path ys
word_path whole path ys (y, is, one) = (
  y,
  is,
  record {
    is = ap (λ k. same_kind kind.Word k || same_kind kind.Quoted k) one.0;
    text = ap₂ path_by one.0 one.1;
    colon = ap (same_kind kind.Colon) one.0;
    paren = ap (same_kind kind.Open) one.0;
  },
)

quoted_path : (whole path : List ℕ) (ys : List Token) → IsOne whole kind.Quoted (34 ∷ (path ++ 34 ∷ [])) ys
    → IsPathToken whole path ys
quoted_path whole path ys (y, is, one) = (
  y,
  is,
  record {
    is = ap (λ k. same_kind kind.Word k || same_kind kind.Quoted k) one.0;
    text = ap₂ path_by one.0 one.1 ∙ between_quotes path;
    colon = ap (same_kind kind.Colon) one.0;
    paren = ap (same_kind kind.Open) one.0;
  },
)

path_by_test : {whole : List ℕ} {p : Point} (path rest : List ℕ) (b : Bool) → is_plain path ≡ b
    → list_all is_quotable path ≡ true → prefix_len is_word_byte rest ≡ 0
    → IsAt whole p ((if b then path else 34 ∷ (path ++ 34 ∷ [])) ++ rest)
    → HasTokens true false p (if b then path else 34 ∷ (path ++ 34 ∷ [])) rest (IsPathToken whole path)
path_by_test {whole} path rest true e all none at =
    so_made (IsPathToken whole path) (word_token true path rest at (plain_word path e) none)
    (λ ys one. word_path whole path ys one)
path_by_test {whole} path rest false e all none at =
    so_made (IsPathToken whole path) (quoted_token true path rest at all) (λ ys one. quoted_path whole path ys one)

path_token : {whole : List ℕ} {p : Point} (path rest : List ℕ) → list_all is_quotable path ≡ true
    → prefix_len is_word_byte rest ≡ 0 → IsAt whole p (path_text path ++ rest)
    → HasTokens true false p (path_text path) rest (IsPathToken whole path)
path_token path rest all none at = path_by_test path rest (is_plain path) refl all none at

-- a member at this place
abbrev member_at : MemberEntry → Place → MemberEntry
member_at m at = record { at = at; path = m.path; class = m.class; options = m.options }

step_read : (whole : List ℕ) (m : MemberEntry) (y : Token) (zs : List Token) (file : List ℕ) (found : Members)
    (more : List Token)
    → PathIs whole m.path y → ClassReads whole m.class m.options zs → NoMark more
    → read (member_step file whole found y true) (zs ++ more)
    ≡ Out.out (End.whole (with_member found (member_at m (place file y)))) more
unfolding member_step member
step_read whole m y zs file found more path reads mark =
    ap (λ o. chain (chain o (λ c rest. Out.out (End.whole (made (path_of whole y) c)) rest))
    (λ one rest. Out.out (End.whole (with_member found one)) rest)) (reads more mark)
    ∙ ap (λ t. Out.out (End.whole (with_member found (made t (record { class = m.class; options = m.options }))))
    more) path.text
  where
    made : List ℕ → Classed → MemberEntry
    made t c = record { at = place file y; path = t; class = c.class; options = c.options }

-- these tokens are read as this member, whatever stands before and behind
record MemberReads (whole : List ℕ) (m : MemberEntry) (ys : List Token) : Type 0 where
  first : Token
  reads : (file : List ℕ) (found : Members) (more : List Token) → NoMark more
      → read (members file whole found) (ys ++ more)
      ≡ read (members file whole (with_member found (member_at m (place file first)))) more
  marks : (more : List Token) → NoMark (ys ++ more)

member_reads : (whole : List ℕ) (m : MemberEntry) (ys zs : List Token) → IsPathToken whole m.path ys
    → ClassReads whole m.class m.options zs → MemberReads whole m (ys ++ zs)
member_reads whole m ys zs (y, is, path) reads = record {
  first = y;
  reads = λ file found more mark.
      ap (read (members file whole found)) (ap (λ l. (l ++ zs) ++ more) is)
      ∙ members_go file whole found y (y ∷ (zs ++ more)) (passes begins_member y (begins path.is))
      ∙ ap (λ b. chain (read (member_step file whole found y b) (zs ++ more))
      (λ b rest. read (members file whole b) rest)) path.is
      ∙ ap (λ o. chain o (λ b rest. read (members file whole b) rest))
      (step_read whole m y zs file found more path reads mark);
  marks = λ more. subst (λ l. NoMark ((l ++ zs) ++ more)) (sym is) (no_mark y (zs ++ more) path.colon path.paren);
}
  where
    begins : is_path y ≡ true → begins_member y ≡ true
    begins h = rw h refl

-- what stands behind a path ends its word
path_ends : (name : Option (List ℕ)) (found : List (List ℕ)) (rest : List ℕ)
    → prefix_len is_word_byte (class_text name found ++ 10 ∷ rest) ≡ 0
path_ends None found rest = refl
path_ends (Some name) found rest = refl

member_tokens : {whole : List ℕ} {p : Point} (m : MemberEntry) (rest : List ℕ) → IsGoodMember m
    → IsAt whole p (item_line (member_text m) ++ rest)
    → HasTokens true true p (item_line (member_text m)) rest (MemberReads whole m)
member_tokens {whole} {p} m rest good at =
    let path = path_text m.path in
    let behind = class_text m.class m.options in
    let end = 10 ∷ rest in
    let line : ((path ++ behind) ++ 10 ∷ []) ++ rest ≡ (path ++ behind) ++ end =
    append_assoc (path ++ behind) (10 ∷ []) rest in
    let split : (path ++ behind) ++ end ≡ path ++ (behind ++ end) = append_assoc path behind end in
    let at0 = subst (λ l. IsAt whole p (32 ∷ (32 ∷ l))) (line ∙ split) at in
    let at1 = at_after (32 ∷ []) (32 ∷ (path ++ (behind ++ end))) at0 in
    let at2 = at_after (32 ∷ []) (path ++ (behind ++ end)) at1 in
    let at3 = at_after path (behind ++ end) at2 in
    let parts = both path behind (MemberReads whole m)
    (path_token m.path (behind ++ end) good.path (path_ends m.class m.options rest) at2)
    (class_tokens m.class m.options rest good.class at3) (λ ys zs one reads. member_reads whole m ys zs one reads) in
    let ended = both (path ++ behind) (10 ∷ []) (MemberReads whole m) parts (line_end _ rest)
    (λ ys zs one none. subst (MemberReads whole m) (sym (ap (λ l. ys ++ l) none ∙ append-nil ys)) one) in
    let spaced = both (32 ∷ []) ((path ++ behind) ++ 10 ∷ []) (MemberReads whole m) (first_space _ _) ended
    (λ ys zs none one. subst (λ l. MemberReads whole m (l ++ zs)) (sym none) one) in
    both (32 ∷ []) (32 ∷ ((path ++ behind) ++ 10 ∷ [])) (MemberReads whole m) (first_space p _) spaced
    (λ ys zs none one. subst (λ l. MemberReads whole m (l ++ zs)) (sym none) one)

-- a line with this directive
abbrev line_at : LineBody → Place → Line
line_at b at = record { at = at; body = b }

-- these tokens are read as this directive in a list of members
record DirectiveInMembers (whole : List ℕ) (b : LineBody) (ys : List Token) : Type 0 where
  first : Token
  reads : (file : List ℕ) (found : Members) (more : List Token) → read (members file whole found) (ys ++ more)
      ≡ read (members file whole (with_member_line found (line_at b (place file first)))) more
  marks : (more : List Token) → NoMark (ys ++ more)

directive_in_members : (whole : List ℕ) (b : LineBody) (ys : List Token) → DirectiveReads false whole b ys
    → DirectiveInMembers whole b ys
unfolding member_step
directive_in_members whole b ys (y, z, is, k, reads) = record {
  first = y;
  reads = λ file found more.
      ap (λ l. read (members file whole found) (l ++ more)) is
      ∙ members_go file whole found y (y ∷ (z ∷ more))
      (passes begins_member y (ap (λ k.
      (same_kind kind.Word k || same_kind kind.Quoted k) || same_kind kind.Directive k) k))
      ∙ ap (λ k. chain (read (member_step file whole found y (same_kind kind.Word k || same_kind kind.Quoted k))
      (z ∷ more)) (λ b rest. read (members file whole b) rest)) k
      ∙ ap (λ o. chain (chain o (λ one rest. Out.out (End.whole (with_member_line found one)) rest))
      (λ b rest. read (members file whole b) rest)) (reads file more);
  marks = λ more. subst (λ l. NoMark (l ++ more)) (sym is)
      (no_mark y (z ∷ more) (ap (same_kind kind.Colon) k) (ap (same_kind kind.Open) k));
}

-- these tokens are read as these members and directives, up to places, before what is no mark
pub record FoundMembers (whole file : List ℕ) (items : List MemberEntry) (lines : List Line)
    (ys : List Token) : Type 0 where
  pub found : Members
  pub members_are : map unplaced_member found.members ≡ map unplaced_member items
  pub lines_are : map unplaced_line found.lines ≡ map unplaced_line lines
  pub reads : (more : List Token) → NoMark more
      → read (members file whole no_members) (ys ++ more) ≡ read (members file whole found) more
  pub marks : (more : List Token) → NoMark more → NoMark (ys ++ more)

abbrev pub MembersRead : List ℕ → List MemberEntry → List Line → List Token → Type 0
MembersRead whole items lines ys = (file : List ℕ) → FoundMembers whole file items lines ys

no_members_read : (whole : List ℕ) (ys : List Token) → IsNone ys → MembersRead whole [] [] ys
no_members_read whole ys is file = record {
  found = no_members;
  members_are = refl;
  lines_are = refl;
  reads = λ more mark. ap (λ l. read (members file whole no_members) (l ++ more)) is;
  marks = λ more mark. subst (λ l. NoMark (l ++ more)) (sym is) mark;
}

same_length : {A B : Type 0} (f : A → B) (xs ys : List A) → map f xs ≡ map f ys → length xs ≡ length ys
same_length f xs ys h = sym (length-map xs f) ∙ ap length h ∙ length-map ys f

-- one more behind lists that are alike
alike_behind : {A B : Type 0} (f : A → B) (xs ys : List A) (x y : A) → map f xs ≡ map f ys → f x ≡ f y
    → map f (xs ++ x ∷ []) ≡ map f (ys ++ y ∷ [])
alike_behind f xs ys x y h k =
    map-append f xs (x ∷ []) ∙ ap₂ (λ l z. l ++ z ∷ []) h k ∙ sym (map-append f ys (y ∷ []))

item_alike : (a b : Place) (n m : ℕ) → n ≡ m → unplaced_line (item a n) ≡ unplaced_line (item b m)
item_alike a b n m h = ap (λ k. unplaced_line (item a k)) h

member_behind : (whole : List ℕ) (items : List MemberEntry) (lines : List Line) (m : MemberEntry) (ys zs : List Token)
    → MembersRead whole items lines ys → MemberReads whole m zs
    → MembersRead whole (items ++ m ∷ []) (lines ++ item m.at (length items) ∷ []) (ys ++ zs)
member_behind whole items lines m ys zs before one file =
    let was = before file in
    let at = place file one.first in
    record {
      found = with_member was.found (member_at m at);
      members_are = alike_behind unplaced_member was.found.members items (member_at m at) m was.members_are refl;
      lines_are = alike_behind unplaced_line was.found.lines lines (item at (length was.found.members))
          (item m.at (length items)) was.lines_are
          (item_alike at m.at _ _ (same_length unplaced_member was.found.members items was.members_are));
      reads = λ more mark.
          ap (read (members file whole no_members)) (append_assoc ys zs more)
          ∙ was.reads (zs ++ more) (one.marks more) ∙ one.reads file was.found more mark;
      marks = λ more mark. subst NoMark (sym (append_assoc ys zs more)) (was.marks (zs ++ more) (one.marks more));
    }

directive_behind : (whole : List ℕ) (items : List MemberEntry) (lines : List Line) (l : Line) (ys zs : List Token)
    → MembersRead whole items lines ys → DirectiveInMembers whole l.body zs
    → MembersRead whole items (lines ++ l ∷ []) (ys ++ zs)
directive_behind whole items lines l ys zs before one file =
    let was = before file in
    let at = place file one.first in
    record {
      found = with_member_line was.found (line_at l.body at);
      members_are = was.members_are;
      lines_are = alike_behind unplaced_line was.found.lines lines (line_at l.body at) l was.lines_are refl;
      reads = λ more mark.
          ap (read (members file whole no_members)) (append_assoc ys zs more)
          ∙ was.reads (zs ++ more) (one.marks more) ∙ one.reads file was.found more;
      marks = λ more mark. subst NoMark (sym (append_assoc ys zs more)) (was.marks (zs ++ more) (one.marks more));
    }

-- the lines of a list of members, from a point on
pub members_tokens : {whole : List ℕ} {p : Point} (items : List MemberEntry) (lines : List Line) (rest : List ℕ)
    → GoodMembers items lines → IsAt whole p (listed member_text items lines ++ rest)
    → HasTokens true true p (listed member_text items lines) rest (MembersRead whole items lines)
members_tokens {whole} {p} _ _ rest Good.none at =
    so_made (MembersRead whole [] []) (nothing true p rest) (λ ys is. no_members_read whole ys is)
members_tokens {whole} {p} _ _ rest (Good.one items lines m good is) at =
    let front = listed member_text items lines in
    let back = item_line (member_text m) in
    let text = listed_one member_text items lines m m.at (items_below items lines good) in
    let here = subst (IsAt whole p) (ap (λ l. l ++ rest) text ∙ append_assoc front back rest) at in
    subst (λ t. HasTokens true true p t rest
    (MembersRead whole (items ++ m ∷ []) (lines ++ item m.at (length items) ∷ []))) (sym text)
    (both front back (MembersRead whole (items ++ m ∷ []) (lines ++ item m.at (length items) ∷ []))
    (members_tokens items lines (back ++ rest) good here)
    (member_tokens m rest is (at_after front (back ++ rest) here))
    (λ ys zs before one. member_behind whole items lines m ys zs before one))
members_tokens {whole} {p} _ _ rest (Good.other items lines l good is) at =
    let front = listed member_text items lines in
    let back = directive_line l.body in
    let text = listed_line member_text items lines l false is in
    let here = subst (IsAt whole p) (ap (λ l. l ++ rest) text ∙ append_assoc front back rest) at in
    subst (λ t. HasTokens true true p t rest (MembersRead whole items (lines ++ l ∷ []))) (sym text)
    (both front back (MembersRead whole items (lines ++ l ∷ []))
    (members_tokens items lines (back ++ rest) good here)
    (directive_reads false l.body rest is (at_after front (back ++ rest) here))
    (λ ys zs before reads. directive_behind whole items lines l ys zs before
    (directive_in_members whole l.body zs reads)))

-- ---- entries

identifier_word : (byte : ℕ) → is_identifier_byte byte ≡ true → is_word_byte byte ≡ true
identifier_word byte h = grind (arith, nat_tests)

identifiers_words : (bytes : List ℕ) → list_all is_identifier_byte bytes ≡ true → list_all is_word_byte bytes ≡ true
identifiers_words [] h = refl
identifiers_words (byte ∷ bytes) h = by (λ k. identifiers_words bytes k) (is_identifier_byte byte) refl h
  where
    by : (list_all is_identifier_byte bytes ≡ true → list_all is_word_byte bytes ≡ true) → (b : Bool)
        → is_identifier_byte byte ≡ b
        → (b && list_all is_identifier_byte bytes) ≡ true → list_all is_word_byte (byte ∷ bytes) ≡ true
    by next true e h = let one = identifier_word byte e in let more = next h in rw (one, more) refl
    by next false e h = absurd (cc)

identifier_text : (name : List ℕ) → is_identifier name ≡ true → IsWordText name
identifier_text [] h = absurd (cc)
identifier_text (byte ∷ bytes) h = by (is_letter byte) refl h
  where
    letter : is_letter byte ≡ true → is_word_byte byte ≡ true
    letter e = rw e refl

    by : (b : Bool) → is_letter byte ≡ b → (b && list_all is_identifier_byte bytes) ≡ true → IsWordText (byte ∷ bytes)
    by true e h = (letter e, identifiers_words bytes h)
    by false e h = absurd (cc)

space_text : (s : Namespace) → IsWordText (space_word s)
unfolding space_word
space_text space_is.Structure = (refl, refl)
space_text space_is.Signature = (refl, refl)
space_text space_is.Functor = (refl, refl)
space_text space_is.Funsig = (refl, refl)

space_back : (s : Namespace) → space_of (space_word s) ≡ Some s
unfolding space_word space_of
space_back space_is.Structure = refl
space_back space_is.Signature = refl
space_back space_is.Functor = refl
space_back space_is.Funsig = refl

-- an entry at this place
abbrev entry_at : Entry → Place → Entry
entry_at e at = record { at = at; name = e.name }

entry_step_read : (whole : List ℕ) (e : Entry) (y z : Token) (file : List ℕ) (found : Exports) (more : List Token)
    → IsGoodEntry e → IsToken whole kind.Word e.name.name z
    → read (export_step file whole found y (Some e.name.space)) (z ∷ more)
    ≡ Out.out (End.whole (with_entry found (entry_at e (place file y)))) more
unfolding export_step entry
entry_step_read whole e y z file found more good named =
    ap (λ o. chain (chain o (λ n rest. Out.out (End.whole (made (slice_of whole n))) rest))
    (λ one rest. Out.out (End.whole (with_entry found one)) rest))
    (word_go wanted.Identifier whole z (z ∷ more)
    (passes (is_word wanted.Identifier whole) z (word_passes wanted.Identifier whole z named good)))
    ∙ ap (λ t. Out.out (End.whole (with_entry found (made t))) more) named.1
  where
    made : List ℕ → Entry
    made t = record { at = place file y; name = record { space = e.name.space; name = t } }

record EntryReads (whole : List ℕ) (e : Entry) (ys : List Token) : Type 0 where
  first : Token
  reads : (file : List ℕ) (found : Exports) (more : List Token) → read (exports file whole found) (ys ++ more)
      ≡ read (exports file whole (with_entry found (entry_at e (place file first)))) more

entry_reads : (whole : List ℕ) (e : Entry) (ys zs : List Token) → IsGoodEntry e
    → IsOne whole kind.Word (space_word e.name.space) ys
    → IsOne whole kind.Word e.name.name zs → EntryReads whole e (ys ++ zs)
entry_reads whole e ys zs good (y, ys_is, spaced) (z, zs_is, named) =
    let at : space_at whole y ≡ Some e.name.space = ap₂ space_by spaced.0 spaced.1 ∙ space_back e.name.space in
    let tokens : ys ++ zs ≡ y ∷ (z ∷ []) = ap (λ l. l ++ zs) ys_is ∙ ap (λ l. y ∷ l) zs_is in
    record {
      first = y;
      reads = λ file found more.
          ap (λ l. read (exports file whole found) (l ++ more)) tokens
          ∙ exports_go file whole found y (y ∷ (z ∷ more))
          (passes (begins_export whole) y (ap (λ s. is_some s || has_kind kind.Directive y) at))
          ∙ ap (λ s. chain (read (export_step file whole found y s) (z ∷ more))
          (λ b rest. read (exports file whole b) rest)) at
          ∙ ap (λ o. chain o (λ b rest. read (exports file whole b) rest))
          (entry_step_read whole e y z file found more good named);
    }

entry_tokens : {whole : List ℕ} {p : Point} (e : Entry) (rest : List ℕ) → IsGoodEntry e
    → IsAt whole p (item_line (entry_text e) ++ rest)
    → HasTokens true true p (item_line (entry_text e)) rest (EntryReads whole e)
entry_tokens {whole} {p} e rest good at =
    let word = space_word e.name.space in
    let name = e.name.name in
    let end = 10 ∷ rest in
    let line : ((word ++ 32 ∷ name) ++ 10 ∷ []) ++ rest ≡ (word ++ 32 ∷ name) ++ end =
    append_assoc (word ++ 32 ∷ name) (10 ∷ []) rest in
    let split : (word ++ 32 ∷ name) ++ end ≡ word ++ (32 ∷ (name ++ end)) = append_assoc word (32 ∷ name) end in
    let at0 = subst (λ l. IsAt whole p (32 ∷ (32 ∷ l))) (line ∙ split) at in
    let at1 = at_after (32 ∷ []) (32 ∷ (word ++ (32 ∷ (name ++ end)))) at0 in
    let at2 = at_after (32 ∷ []) (word ++ (32 ∷ (name ++ end))) at1 in
    let at3 = at_after word (32 ∷ (name ++ end)) at2 in
    let at4 = at_after (32 ∷ []) (name ++ end) at3 in
    let named = both (32 ∷ []) name (IsOne whole kind.Word name) (space _ (name ++ end))
    (word_token false name end at4 (identifier_text name good) refl)
    (λ ys zs none one. subst (λ l. IsOne whole kind.Word name (l ++ zs)) (sym none) one) in
    let parts = both word (32 ∷ name) (EntryReads whole e)
    (word_token true word (32 ∷ (name ++ end)) at2 (space_text e.name.space) refl) named
    (λ ys zs one two. entry_reads whole e ys zs good one two) in
    let ended = both (word ++ 32 ∷ name) (10 ∷ []) (EntryReads whole e) parts (line_end _ rest)
    (λ ys zs one none. subst (EntryReads whole e) (sym (ap (λ l. ys ++ l) none ∙ append-nil ys)) one) in
    let spaced = both (32 ∷ []) ((word ++ 32 ∷ name) ++ 10 ∷ []) (EntryReads whole e) (first_space _ _) ended
    (λ ys zs none one. subst (λ l. EntryReads whole e (l ++ zs)) (sym none) one) in
    both (32 ∷ []) (32 ∷ ((word ++ 32 ∷ name) ++ 10 ∷ [])) (EntryReads whole e) (first_space p _) spaced
    (λ ys zs none one. subst (λ l. EntryReads whole e (l ++ zs)) (sym none) one)

-- these tokens are read as this directive in an export list
record DirectiveInExports (whole : List ℕ) (b : LineBody) (ys : List Token) : Type 0 where
  first : Token
  reads : (file : List ℕ) (found : Exports) (more : List Token) → read (exports file whole found) (ys ++ more)
      ≡ read (exports file whole (with_export_line found (line_at b (place file first)))) more

directive_in_exports : (whole : List ℕ) (b : LineBody) (ys : List Token) → DirectiveReads true whole b ys
    → DirectiveInExports whole b ys
unfolding export_step
directive_in_exports whole b ys (y, z, is, k, reads) =
    let none : space_at whole y ≡ None = ap (λ k. space_by k (slice_of whole y)) k in
    record {
      first = y;
      reads = λ file found more.
          ap (λ l. read (exports file whole found) (l ++ more)) is
          ∙ exports_go file whole found y (y ∷ (z ∷ more))
          (passes (begins_export whole) y (ap₂ (λ s k. is_some s || same_kind kind.Directive k) none k))
          ∙ ap (λ s. chain (read (export_step file whole found y s) (z ∷ more))
          (λ b rest. read (exports file whole b) rest)) none
          ∙ ap (λ o. chain (chain o (λ one rest. Out.out (End.whole (with_export_line found one)) rest))
          (λ b rest. read (exports file whole b) rest)) (reads file more);
    }

-- these tokens are read as these entries and directives, up to places
pub record FoundExports (whole file : List ℕ) (items : List Entry) (lines : List Line)
    (ys : List Token) : Type 0 where
  pub found : Exports
  pub entries_are : map unplaced_entry found.entries ≡ map unplaced_entry items
  pub lines_are : map unplaced_line found.lines ≡ map unplaced_line lines
  pub reads : (more : List Token)
      → read (exports file whole no_exports) (ys ++ more) ≡ read (exports file whole found) more

abbrev pub ExportsRead : List ℕ → List Entry → List Line → List Token → Type 0
ExportsRead whole items lines ys = (file : List ℕ) → FoundExports whole file items lines ys

no_exports_read : (whole : List ℕ) (ys : List Token) → IsNone ys → ExportsRead whole [] [] ys
no_exports_read whole ys is file = record {
  found = no_exports;
  entries_are = refl;
  lines_are = refl;
  reads = λ more. ap (λ l. read (exports file whole no_exports) (l ++ more)) is;
}

entry_behind : (whole : List ℕ) (items : List Entry) (lines : List Line) (e : Entry) (ys zs : List Token)
    → ExportsRead whole items lines ys → EntryReads whole e zs
    → ExportsRead whole (items ++ e ∷ []) (lines ++ item e.at (length items) ∷ []) (ys ++ zs)
entry_behind whole items lines e ys zs before one file =
    let was = before file in
    let at = place file one.first in
    record {
      found = with_entry was.found (entry_at e at);
      entries_are = alike_behind unplaced_entry was.found.entries items (entry_at e at) e was.entries_are refl;
      lines_are = alike_behind unplaced_line was.found.lines lines (item at (length was.found.entries))
          (item e.at (length items)) was.lines_are
          (item_alike at e.at _ _ (same_length unplaced_entry was.found.entries items was.entries_are));
      reads = λ more.
          ap (read (exports file whole no_exports)) (append_assoc ys zs more)
          ∙ was.reads (zs ++ more) ∙ one.reads file was.found more;
    }

directive_after : (whole : List ℕ) (items : List Entry) (lines : List Line) (l : Line) (ys zs : List Token)
    → ExportsRead whole items lines ys → DirectiveInExports whole l.body zs
    → ExportsRead whole items (lines ++ l ∷ []) (ys ++ zs)
directive_after whole items lines l ys zs before one file =
    let was = before file in
    let at = place file one.first in
    record {
      found = with_export_line was.found (line_at l.body at);
      entries_are = was.entries_are;
      lines_are = alike_behind unplaced_line was.found.lines lines (line_at l.body at) l was.lines_are refl;
      reads = λ more.
          ap (read (exports file whole no_exports)) (append_assoc ys zs more)
          ∙ was.reads (zs ++ more) ∙ one.reads file was.found more;
    }

-- the lines of an export list, from a point on
pub exports_tokens : {whole : List ℕ} {p : Point} (items : List Entry) (lines : List Line) (rest : List ℕ)
    → GoodExports items lines → IsAt whole p (listed entry_text items lines ++ rest)
    → HasTokens true true p (listed entry_text items lines) rest (ExportsRead whole items lines)
exports_tokens {whole} {p} _ _ rest Good.none at =
    so_made (ExportsRead whole [] []) (nothing true p rest) (λ ys is. no_exports_read whole ys is)
exports_tokens {whole} {p} _ _ rest (Good.one items lines e good is) at =
    let front = listed entry_text items lines in
    let back = item_line (entry_text e) in
    let text = listed_one entry_text items lines e e.at (items_below items lines good) in
    let here = subst (IsAt whole p) (ap (λ l. l ++ rest) text ∙ append_assoc front back rest) at in
    subst (λ t. HasTokens true true p t rest
    (ExportsRead whole (items ++ e ∷ []) (lines ++ item e.at (length items) ∷ []))) (sym text)
    (both front back (ExportsRead whole (items ++ e ∷ []) (lines ++ item e.at (length items) ∷ []))
    (exports_tokens items lines (back ++ rest) good here)
    (entry_tokens e rest is (at_after front (back ++ rest) here))
    (λ ys zs before one. entry_behind whole items lines e ys zs before one))
exports_tokens {whole} {p} _ _ rest (Good.other items lines l good is) at =
    let front = listed entry_text items lines in
    let back = directive_line l.body in
    let text = listed_line entry_text items lines l true is in
    let here = subst (IsAt whole p) (ap (λ l. l ++ rest) text ∙ append_assoc front back rest) at in
    subst (λ t. HasTokens true true p t rest (ExportsRead whole items (lines ++ l ∷ []))) (sym text)
    (both front back (ExportsRead whole items (lines ++ l ∷ []))
    (exports_tokens items lines (back ++ rest) good here)
    (directive_reads true l.body rest is (at_after front (back ++ rest) here))
    (λ ys zs before reads. directive_after whole items lines l ys zs before
    (directive_in_exports whole l.body zs reads)))
