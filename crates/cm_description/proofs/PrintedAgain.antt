-- What is printed of a description that was read is read as the same, up to places.
use Rattle.std.proofs.Common.{◌≡◌, ℕ, ◌<◌, ◌||◌, ◌&&◌, inl, inr, Bool, true, false, if◌then◌else◌, nat_lt, None, Some, is_some, Result, Ok, Err, List, [], ◌∷◌, ◌++◌, codes, refl, ap, ap₂, sym, ◌∙◌, subst, length, map, append_assoc, append-nil}
use Rattle.std.specs.List.{list_any}
use Rattle.std.proofs.lemmas.List.{length-map}
use Rattle.cm_base.specs.Diags.{whole_file}
use Rattle.cm_base.specs.declared.diag.Diag.{Diag}
use Rattle.cm_base.specs.declared.fault.Fault.{Fault}
use Rattle.cm_base.specs.declared.fault.Fault.TheVariants as fault
use Rattle.grammars.specs.Grammar.{End, Phrase}
use Rattle.grammars.specs.Reading.{Out, chain, read}
use Rattle.grammars.proofs.Texts.{phrase_read}
use Rattle.cm_lexer.specs.Points.{start, after}
use Rattle.cm_lexer.specs.Spelling.{slice_of}
use Rattle.cm_lexer.specs.Tokens.{ended, onto, scan_from, scan_of}
use Rattle.cm_lexer.specs.declared.point.Point.{Point}
use Rattle.cm_lexer.specs.declared.token.Scan.{Scan}
use Rattle.cm_lexer.specs.declared.token.Token.{Token}
use Rattle.cm_lexer.specs.declared.token.TokenKind.TheVariants as kind
use Rattle.cm_lexer.proofs.Steps.{scan_none}
use Rattle.cm_conditions.specs.Grammar.{space_of}
use Rattle.cm_description.specs.Again.{unplaced_line, unplaced_entry, unplaced_member, unplaced, AreAlike, IsRead, ReadsAgain, IsPrinted}
use Rattle.cm_description.specs.Answers.{IsDescription, IsRefusal, ReadsDescription, passes_limits, is_empty, lacks_exports, checked, refusal_at, first_place}
use Rattle.cm_description.specs.Grammar.{word, exports, members, no_exports, no_members, described, description}
use Rattle.cm_description.specs.Printing.{kind_line, is_line, listed, entry_text, member_text, printed}
use Rattle.cm_description.specs.Words.{is_library_word, allows, is_word, space_by, same_kind, begins_export, is_group_word, is_is_word}
use Rattle.cm_description.specs.declared.description.Description.{Description}
use Rattle.cm_description.specs.declared.description.Entry.{Entry}
use Rattle.cm_description.specs.declared.word.WordKind.TheVariants as wanted
use Rattle.cm_description.proofs.Good.{IsGood, description_good}
use Rattle.cm_description.proofs.LineTokens.{NoMark, passes, word_passes}
use Rattle.cm_description.proofs.ListTokens.{ExportsRead, MembersRead, exports_tokens, members_tokens}
use Rattle.cm_description.proofs.OneAnswer.{one_answer}
use Rattle.cm_lexer.proofs.Scanning.{IsAt, at_after, HasTokens, both, line_end, IsOne, IsWordText, word_token}
use Rattle.cm_description.proofs.Steps.{word_go, exports_end, members_end}
use Rattle.cm_description.proofs.TextLaws.{one_description}

-- ---- the first line, and the line between the lists

abbrev kind_word : Bool → List ℕ
kind_word true = codes "library"
kind_word false = codes "group"

-- a line of one word
word_line_tokens : {whole : List ℕ} {p : Point} (word rest : List ℕ) → IsWordText word
    → IsAt whole p ((word ++ 10 ∷ []) ++ rest)
    → HasTokens true true p (word ++ 10 ∷ []) rest (IsOne whole kind.Word word)
word_line_tokens {whole} {p} word rest w at =
    let split : (word ++ 10 ∷ []) ++ rest ≡ word ++ 10 ∷ rest = append_assoc word (10 ∷ []) rest in
    both word (10 ∷ []) (IsOne whole kind.Word word)
    (word_token true word (10 ∷ rest) (subst (IsAt whole p) split at) w refl) (line_end _ rest)
    (λ ys zs one none. subst (IsOne whole kind.Word word) (sym (ap (λ l. ys ++ l) none ∙ append-nil ys)) one)

kind_text : (library : Bool) → IsWordText (kind_word library)
kind_text true = (refl, refl)
kind_text false = (refl, refl)

kind_is : (library : Bool) → kind_line library ≡ kind_word library ++ 10 ∷ []
unfolding kind_line
kind_is true = refl
kind_is false = refl

kind_allowed : (library : Bool) → allows wanted.Kind (kind_word library) ≡ true
unfolding is_group_word is_library_word
kind_allowed true = refl
kind_allowed false = refl

kind_back : (library : Bool) → is_library_word (kind_word library) ≡ library
unfolding is_library_word
kind_back true = refl
kind_back false = refl

abbrev between_word : List ℕ
between_word = codes "is"

between_is : is_line ≡ between_word ++ 10 ∷ []
unfolding is_line
between_is = refl

between_allowed : allows wanted.Is between_word ≡ true
unfolding is_is_word
between_allowed = refl

between_no_space : space_of between_word ≡ None
unfolding space_of
between_no_space = refl

-- ---- the whole

-- a description that is read of all these tokens, with no more than these
record Found (whole file : List ℕ) (d : Description) (ys : List Token) : Type 0 where
  found : Description
  alike : AreAlike d found
  reads : read (description file whole) ys ≡ Out.out (End.whole found) []

alike_of : (d : Description) (library : Bool) (e : Description) → d.library ≡ e.library
    → map unplaced_entry e.entries ≡ map unplaced_entry d.entries
    → map unplaced_line e.export_lines ≡ map unplaced_line d.export_lines
    → map unplaced_member e.members ≡ map unplaced_member d.members
    → map unplaced_line e.member_lines ≡ map unplaced_line d.member_lines → AreAlike d e
alike_of d library e a b c f g = cc

whole_read : (whole file : List ℕ) (d : Description) (ys es us ms : List Token)
    → IsOne whole kind.Word (kind_word d.library) ys → ExportsRead whole d.entries d.export_lines es
    → IsOne whole kind.Word between_word us → MembersRead whole d.members d.member_lines ms
    → Found whole file d (ys ++ (es ++ (us ++ ms)))
unfolding description
whole_read whole file d ys es us ms (y, y_is, begun) exported (u, u_is, between) found =
    let one = exported file in
    let two = found file in
    let e = described d.library one.found two.found in
    let tokens : ys ++ (es ++ (us ++ ms)) ≡ y ∷ (es ++ (u ∷ ms)) = ap₂ (λ l r. l ++ (es ++ (r ++ ms))) y_is u_is in
    let stop : begins_export whole u ≡ false =
    ap₂ (λ s k. is_some s || same_kind kind.Directive k)
    (ap₂ space_by between.0 between.1 ∙ between_no_space) between.0 in
    let end : NoMark [] = record { colon = refl; paren = refl } in
    let last : read (members file whole no_members) ms ≡ Out.out (End.whole two.found) [] =
    ap (read (members file whole no_members)) (sym (append-nil ms)) ∙ two.reads [] end
    ∙ members_end file whole two.found [] refl in
    record {
      found = e;
      alike = alike_of d d.library e refl one.entries_are one.lines_are two.members_are two.lines_are;
      reads = ap (read (description file whole)) tokens
          ∙ ap (λ o. chain o (λ b rest. chain (read (exports file whole no_exports) rest)
          (λ x rest. chain (read (word wanted.Is whole) rest)
          (λ _ rest. chain (read (members file whole no_members) rest)
          (λ m rest. Out.out (End.whole (described (is_library_word (slice_of whole b)) x m)) rest)))))
          (word_go wanted.Kind whole y (y ∷ (es ++ (u ∷ ms)))
          (passes (is_word wanted.Kind whole) y (word_passes wanted.Kind whole y begun (kind_allowed d.library))))
          ∙ ap (λ o. chain o (λ x rest. chain (read (word wanted.Is whole) rest)
          (λ _ rest. chain (read (members file whole no_members) rest)
          (λ m rest. Out.out (End.whole (described (is_library_word (slice_of whole y)) x m)) rest))))
          (one.reads (u ∷ ms) ∙ exports_end file whole one.found (u ∷ ms) (ap (λ b. if b then Some u else None) stop))
          ∙ ap (λ o. chain o (λ _ rest. chain (read (members file whole no_members) rest)
          (λ m rest. Out.out (End.whole (described (is_library_word (slice_of whole y)) one.found m)) rest)))
          (word_go wanted.Is whole u (u ∷ ms)
          (passes (is_word wanted.Is whole) u (word_passes wanted.Is whole u between between_allowed)))
          ∙ ap (λ o. chain o (λ m rest. Out.out
          (End.whole (described (is_library_word (slice_of whole y)) one.found m)) rest)) last
          ∙ ap (λ b. Out.out (End.whole (described b one.found two.found)) [])
          (ap is_library_word begun.1 ∙ kind_back d.library);
    }

abbrev DescriptionRead : List ℕ → Description → List Token → Type 0
DescriptionRead whole d ys = (file : List ℕ) → Found whole file d ys

-- the lines of a description
whole_tokens : (whole : List ℕ) (d : Description) → IsGood d → IsAt whole start (printed d ++ [])
    → HasTokens true true start (printed d) [] (DescriptionRead whole d)
unfolding printed
whole_tokens whole d good at =
    let head = kind_line d.library in
    let exported = listed entry_text d.entries d.export_lines in
    let found = listed member_text d.members d.member_lines in
    let split1 : (head ++ (exported ++ (is_line ++ found))) ++ [] ≡ head ++ ((exported ++ (is_line ++ found)) ++ []) =
    append_assoc head (exported ++ (is_line ++ found)) [] in
    let split2 : (exported ++ (is_line ++ found)) ++ [] ≡ exported ++ ((is_line ++ found) ++ []) =
    append_assoc exported (is_line ++ found) [] in
    let split3 : (is_line ++ found) ++ [] ≡ is_line ++ (found ++ []) = append_assoc is_line found [] in
    let at0 = subst (IsAt whole start) split1 at in
    let at1 = subst (IsAt whole _) split2 (at_after head ((exported ++ (is_line ++ found)) ++ []) at0) in
    let at2 = subst (IsAt whole _) split3 (at_after exported ((is_line ++ found) ++ []) at1) in
    let at3 = at_after is_line (found ++ []) at2 in
    let lists = both is_line found
    (λ ls. (us ms : List Token) × (ls ≡ us ++ ms) × IsOne whole kind.Word between_word us
    × MembersRead whole d.members d.member_lines ms)
    (between_tokens (found ++ []) at2) (members_tokens d.members d.member_lines [] good.members at3)
    (λ us ms one are. (us, ms, refl, one, are)) in
    let all = both exported (is_line ++ found)
    (λ ls. (es us ms : List Token) × (ls ≡ es ++ (us ++ ms)) × ExportsRead whole d.entries d.export_lines es
    × IsOne whole kind.Word between_word us × MembersRead whole d.members d.member_lines ms)
    (exports_tokens d.entries d.export_lines ((is_line ++ found) ++ []) good.exports at1) lists
    (λ es ls are rest. join es ls are rest) in
    both head (exported ++ (is_line ++ found)) (DescriptionRead whole d)
    (kind_tokens d.library ((exported ++ (is_line ++ found)) ++ []) at0) all
    (λ ys ls one rest. made ys ls one rest)
  where
    kind_tokens : {p : Point} (library : Bool) (rest : List ℕ) → IsAt whole p (kind_line library ++ rest)
        → HasTokens true true p (kind_line library) rest (IsOne whole kind.Word (kind_word library))
    kind_tokens {p} library rest at =
        subst (λ t. HasTokens true true p t rest (IsOne whole kind.Word (kind_word library))) (sym (kind_is library))
        (word_line_tokens (kind_word library) rest (kind_text library)
        (subst (λ t. IsAt whole p (t ++ rest)) (kind_is library) at))

    between_tokens : {p : Point} (rest : List ℕ) → IsAt whole p (is_line ++ rest)
        → HasTokens true true p is_line rest (IsOne whole kind.Word between_word)
    between_tokens {p} rest at =
        subst (λ t. HasTokens true true p t rest (IsOne whole kind.Word between_word)) (sym between_is)
        (word_line_tokens between_word rest (refl, refl) (subst (λ t. IsAt whole p (t ++ rest)) between_is at))

    join : (es ls : List Token) → ExportsRead whole d.entries d.export_lines es
        → ((us ms : List Token) × (ls ≡ us ++ ms) × IsOne whole kind.Word between_word us
        × MembersRead whole d.members d.member_lines ms)
        → (fs us ms : List Token) × (es ++ ls ≡ fs ++ (us ++ ms)) × ExportsRead whole d.entries d.export_lines fs
        × IsOne whole kind.Word between_word us × MembersRead whole d.members d.member_lines ms
    join es ls entries (us, ms, is, one, others) = (es, us, ms, ap (λ l. es ++ l) is, entries, one, others)

    made : (ys ls : List Token) → IsOne whole kind.Word (kind_word d.library) ys
        → ((es us ms : List Token) × (ls ≡ es ++ (us ++ ms)) × ExportsRead whole d.entries d.export_lines es
        × IsOne whole kind.Word between_word us × MembersRead whole d.members d.member_lines ms)
        → DescriptionRead whole d (ys ++ ls)
    made ys ls one (es, us, ms, is, entries, between, others) file =
        subst (λ l. Found whole file d (ys ++ l)) (sym is)
        (whole_read whole file d ys es us ms one entries between others)

tokens_only : (ys : List Token) → onto ys ended ≡ record { tokens = ys; wrong = None }
tokens_only ys = ap (λ l. let s : Scan = record { tokens = l; wrong = None } in s) (append-nil ys)

-- the text of a description with good parts is one that says the same
good_again : (d : Description) → IsGood d → (file : List ℕ) → (e : Description) × IsDescription file (printed d) e
    × AreAlike d e
good_again d good file =
    let text = printed d in
    let one = whole_tokens text d good (record { rest = sym (append-nil text) }) in
    let scan : scan_of text ≡ record { tokens = one.tokens; wrong = None } =
    ap (scan_from true start) (sym (append-nil text)) ∙ one.scanned
    ∙ ap (onto one.tokens) (scan_none true (after start text)) ∙ tokens_only one.tokens in
    let found = one.are file in (
      found.found,
      record {
        whole = ap (λ (s : Scan). s.wrong) scan;
        phrase = subst (λ l. Phrase (description file text) l None found.found)
            (sym (ap (λ (s : Scan). s.tokens) scan))
            (phrase_read (description file text) one.tokens found.found found.reads);
      },
      found.alike,
    )

-- ---- limits

-- a name as long as this, wherever it stands
abbrev is_long : Entry → Bool
is_long entry = nat_lt 255 (length entry.name.name)

long_unplaced : (es : List Entry) → list_any is_long (map unplaced_entry es) ≡ list_any is_long es
long_unplaced [] = refl
long_unplaced (e ∷ es) = ap (λ b. is_long e || b) (long_unplaced es)

empty_unplaced : (es : List Entry) → is_empty (map unplaced_entry es) ≡ is_empty es
empty_unplaced [] = refl
empty_unplaced (e ∷ es) = refl

limits_unplaced : (d : Description) → passes_limits (unplaced d) ≡ passes_limits d
limits_unplaced d = ap₂ (λ n b. nat_lt 4096 n || b) (length-map d.members unplaced_member) (long_unplaced d.entries)

exports_unplaced : (d : Description) → lacks_exports (unplaced d) ≡ lacks_exports d
exports_unplaced d = ap (λ b. d.library && b) (empty_unplaced d.entries)

-- what is within its limits has none of both faults
within : (file : List ℕ) (xs : List Token) (d : Description) (a b : Bool) → passes_limits d ≡ a → lacks_exports d ≡ b
    → checked file xs d ≡ Ok d → (passes_limits d ≡ false) × (lacks_exports d ≡ false)
within file xs d true b e f h =
    absurd (not_ok _ d (sym (ap (λ t. if t then Err (whole_file 12 file) else
    (if lacks_exports d then Err (refusal_at 19 (first_place file xs)) else Ok d)) e) ∙ h))
  where
    not_ok : (g : Diag) (d : Description) → ◌≡◌ {A = Result Description Diag} (Err g) (Ok d) → ⊥
    not_ok g d h = cc
within file xs d false true e f h =
    absurd (not_ok _ d (sym (ap₂ (λ s t. if s then Err (whole_file 12 file) else
    (if t then Err (refusal_at 19 (first_place file xs)) else Ok d)) e f) ∙ h))
  where
    not_ok : (g : Diag) (d : Description) → ◌≡◌ {A = Result Description Diag} (Err g) (Ok d) → ⊥
    not_ok g d h = cc
within file xs d false false e f h = (e, f)

passes_checks : (file : List ℕ) (xs : List Token) (d : Description) → passes_limits d ≡ false
    → lacks_exports d ≡ false
    → checked file xs d ≡ Ok d
passes_checks file xs d e f = rw (e, f) refl

-- the limits of one are those of another that says the same
checked_again : (file other : List ℕ) (xs ys : List Token) (d e : Description) → AreAlike d e
    → checked file xs d ≡ Ok d
    → checked other ys e ≡ Ok e
checked_again file other xs ys d e alike ok =
    let were = within file xs d (passes_limits d) (lacks_exports d) refl refl ok in
    passes_checks other ys e
    (sym (limits_unplaced e) ∙ ap passes_limits (sym alike) ∙ limits_unplaced d ∙ were.0)
    (sym (exports_unplaced e) ∙ ap lacks_exports (sym alike) ∙ exports_unplaced d ∙ were.1)

-- ---- reading again

-- a text within its size is read, if it is within its limits
size_of : (file text : List ℕ) (diag : Diag) (e : Description) → IsDescription file text e
    → checked file (scan_of text).tokens e ≡ Ok e → IsRefusal file text diag
    → (65536 < length text) × (diag ≡ whole_file 12 file)
size_of file text diag e is ok (inl large) = large
size_of file text diag e is ok (inr (inl (small, never))) =
    absurd ((one_answer file text diag (inr (inl (small, never)))).1 e (small, is, ok))
size_of file text diag e is ok (inr (inr (small, d, known, kept))) =
    absurd ((one_answer file text diag (inr (inr (small, d, known, kept)))).1 e (small, is, ok))

answer_again : (d e : Description) (file text : List ℕ) (r : Result Description Fault) → IsDescription file text e
    → AreAlike d e
    → checked file (scan_of text).tokens e ≡ Ok e → ReadsDescription file text r → ReadsAgain d file text r
answer_again d e file text (Ok f) is alike ok (small, other, within) =
    let same : e ≡ f = one_description file text e f is other in subst (AreAlike d) same alike
answer_again d e file text (Err (fault.Diag diag)) is alike ok refused = size_of file text diag e is ok refused
answer_again d e file text (Err fault.NoMemory) is alike ok h = tt

-- What is printed of a description that was read says the same, and is read as the same.
pub printed_again : (d : Description) → IsRead d → IsPrinted d (printed d)
printed_again d (first, text, (small, is, ok)) =
    let good = description_good first text d is in record {
      phrase = λ file. good_again d good file;
      again = λ file r reads.
          let one = good_again d good file in
          answer_again d one.0 file (printed d) r one.1 one.2
          (checked_again first file (scan_of text).tokens (scan_of (printed d)).tokens d one.0 one.2 ok) reads;
    }

pub printed_as_read : (d : Description) (text : List ℕ) → text ≡ printed d → IsRead d → IsPrinted d text
printed_as_read d text is r = subst (IsPrinted d) (sym is) (printed_again d r)
