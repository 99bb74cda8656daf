-- What the reading of all tokens answers.
use Rattle.std.proofs.Common.{◌≡◌, ◌≤◌, ◌-◌, ℕ, List, [], ◌∷◌, length, take, drop, Option, Some, None, Bool, true, false, Result, Ok, Err, inl, inr, if◌then◌else◌, ap, sym, ◌∙◌, subst, ◌++◌, arith, length-append}
use Rattle.std.proofs.Math.Seq.{drop-append_seam}
use Rattle.cm_base.specs.Diags.{whole_file}
use Rattle.cm_base.specs.Calls.{Gives}
use Rattle.cm_base.specs.declared.diag.Diag.{Diag}
use Rattle.cm_base.specs.declared.fault.Fault.{Fault}
use Rattle.cm_base.specs.declared.fault.Fault.TheVariants as fault
use Rattle.grammars.specs.Grammar.{End}
use Rattle.grammars.specs.Reading.{Out, read}
use Rattle.grammars.specs.Texts.{IsRefused}
use Rattle.grammars.proofs.Texts.{phrase_read, refused_read, more_read, too_deep_read}
use Rattle.grammars.proofs.Sound.{sound}
use Rattle.cm_lexer.specs.Tokens.{scan_of}
use Rattle.cm_lexer.specs.declared.point.Point.{Point}
use Rattle.cm_lexer.specs.declared.token.Scan.{Scan}
use Rattle.cm_lexer.specs.declared.token.Token.{Token}
use Rattle.cm_description.proofs.BadEnds.{bad_end, two_at_end}
use Rattle.cm_description.specs.Grammar.{description}
use Rattle.cm_description.specs.Answers.{IsDescription, IsNoDescription, IsWhole, EndsBadly, ReadsDescription, is_end, stop_place, first_place, refusal_at, passes_limits, lacks_exports, checked}
use Rattle.cm_description.specs.Seen.{ShowsEnd}
use Rattle.cm_description.specs.declared.description.Description.{Description}

-- what is left stands behind what was taken
dropped : (xs ys rest : List Token) → xs ≡ ys ++ rest → drop (length xs - length rest) xs ≡ rest
dropped xs ys rest split =
    let count : length xs - length rest ≡ length ys = rw (split, length-append) (omega arith) in
    ap (λ (n : ℕ). drop n xs) count ∙ ap (λ (l : List Token). drop (length ys) l) split ∙ drop-append_seam ys rest

-- what passes two tests is what was tested
passed : (a b : Bool) (x y : Diag) (d e : Description)
    → (if a then Err x else (if b then Err y else Ok d)) ≡ Ok e → d ≡ e
passed true b x y d e h = absurd (cc)
passed false true x y d e h = absurd (cc)
passed false false x y d e h = cc

module _ (file text : List ℕ) where
  abbrev pub xs : List Token
  xs = (scan_of text).tokens

  abbrev pub found : Out Token Description
  found = read (description file text) xs

  -- the diagnostic 2 before these tokens
  abbrev pub stopped : List Token → Diag
  stopped rest = refusal_at 2 (stop_place file (scan_of text) rest)

  pub is_whole : (d : Description) (rest : List Token) (wrong : Option Point) → (scan_of text).wrong ≡ wrong
      → found ≡ Out.out (End.whole d) rest → is_end rest wrong ≡ true → IsDescription file text d
  is_whole d [] None w h e = record { whole = w; phrase = phrase_read (description file text) xs d h }
  is_whole d [] (Some p) w h e = absurd (cc)
  is_whole d (x ∷ rest) wrong w h e = absurd (cc)

  -- a text that is refused before these tokens
  refused : (n : ℕ) (rest : List Token) (diag : Diag) → drop n xs ≡ rest → IsRefused (description file text) xs n
      → diag ≡ stopped rest → IsNoDescription file text diag
  refused n rest diag left is e = inl (n, is, e ∙ ap (λ (l : List Token). stopped l) (sym left))

  -- what is left stands behind what was taken
  left_is : (e : End Description) (rest : List Token) → found ≡ Out.out e rest
      → drop (length xs - length rest) xs ≡ rest
  left_is e rest h =
      let one = sound (description file text) xs e rest h in dropped xs one.0 rest one.1

  pub is_more : (d : Description) (rest : List Token) (wrong : Option Point) (diag : Diag)
      → (scan_of text).wrong ≡ wrong
      → found ≡ Out.out (End.whole d) rest → is_end rest wrong ≡ false → diag ≡ stopped rest
      → IsNoDescription file text diag
  is_more d [] None diag w h e is = absurd (cc)
  is_more d [] (Some p) diag w h e is = inr (inl (d, p, phrase_read (description file text) xs d h, w, is))
  is_more d (x ∷ rest) wrong diag w h e is =
      refused (length xs - length (x ∷ rest)) (x ∷ rest) diag (left_is (End.whole d) (x ∷ rest) h)
      (more_read (description file text) xs d x rest h) is

  pub is_refused : (rest : List Token) (diag : Diag) → found ≡ Out.out End.refused rest → diag ≡ stopped rest
      → IsNoDescription file text diag
  is_refused rest diag h is =
      refused (length xs - length rest) rest diag (left_is End.refused rest h)
      (refused_read (description file text) xs rest h) is

  pub is_bad : (rest : List Token) (diag : Diag) → found ≡ Out.out End.deep rest
      → EndsBadly file text (take (length xs - length rest) xs) diag → IsNoDescription file text diag
  is_bad rest diag h is =
      inr (inr (length xs - length rest, too_deep_read (description file text) xs rest h, is))

-- the same, of the scan and the tokens that code has
module _ (file text : List ℕ) (scan : Scan) (tokens : List Token) (same : scan ≡ scan_of text)
    (all : tokens ≡ scan.tokens) where
  abbrev all_tokens : tokens ≡ (scan_of text).tokens
  all_tokens = all ∙ ap (λ (s : Scan). s.tokens) same

  abbrev reading : Out Token Description
  reading = read (description file text) tokens

  -- what was read is what is read of all tokens
  read_all : (o : Out Token Description) → reading ≡ o → found file text ≡ o
  read_all o h = ap (λ (l : List Token). read (description file text) l) (sym all_tokens) ∙ h

  pub whole_answer : (d : Description) (rest : List Token) → reading ≡ Out.out (End.whole d) rest
      → is_end rest scan.wrong ≡ true → IsDescription file text d
  whole_answer d rest h e =
      is_whole file text d rest scan.wrong (ap (λ (s : Scan). s.wrong) (sym same)) (read_all _ h) e

  -- the diagnostic 2 before these tokens
  stopped_is : (rest : List Token) (diag : Diag) → diag ≡ refusal_at 2 (stop_place file scan rest)
      → diag ≡ stopped file text rest
  stopped_is rest diag is = is ∙ ap (λ (s : Scan). refusal_at 2 (stop_place file s rest)) same

  pub more_answer : (d : Description) (rest : List Token) (diag : Diag) → reading ≡ Out.out (End.whole d) rest
      → is_end rest scan.wrong ≡ false → diag ≡ refusal_at 2 (stop_place file scan rest)
      → IsNoDescription file text diag
  more_answer d rest diag h e is =
      is_more file text d rest scan.wrong diag (ap (λ (s : Scan). s.wrong) (sym same)) (read_all _ h) e
      (stopped_is rest diag is)

  pub refused_answer : (rest : List Token) (diag : Diag) → reading ≡ Out.out End.refused rest
      → diag ≡ refusal_at 2 (stop_place file scan rest) → IsNoDescription file text diag
  refused_answer rest diag h is = is_refused file text rest diag (read_all _ h) (stopped_is rest diag is)

  -- what was taken, where reading ends at a condition
  pub taken_two : (rest : List Token) → reading ≡ Out.out End.deep rest
      → 2 ≤ length (take (length tokens - length rest) tokens)
  taken_two rest h =
      two_at_end file text _ _ (too_deep_read (description file text) tokens rest h).ends

  pub bad_answer : (rest : List Token) (diag : Diag) → reading ≡ Out.out End.deep rest
      → ShowsEnd file text (take (length tokens - length rest) tokens) diag → IsNoDescription file text diag
  bad_answer rest diag h is =
      let deep = read_all _ h in
      is_bad file text rest diag deep
      (bad_end file text (take (length (xs file text) - length rest) (xs file text)) _ diag
      (too_deep_read (description file text) (xs file text) rest deep).ends
      (subst (λ (l : List Token). ShowsEnd file text (take (length l - length rest) l) diag) all_tokens is))

module _ (file text : List ℕ) where
  -- a text that is no description is refused
  pub none_answer : (why : Fault) → length text ≤ 65536 → IsWhole file text (Err why)
      → ReadsDescription file text (Err why)
  none_answer (fault.Diag diag) small is = inr (inl (small, is))
  none_answer fault.NoMemory small is = tt

  -- a description is checked
  pub checked_answer : (d : Description) (r : Result Description Fault) → length text ≤ 65536
      → IsDescription file text d → Gives r (checked file (scan_of text).tokens d) → ReadsDescription file text r
  checked_answer d (Ok e) small is gives =
      let same : d ≡ e = passed (passes_limits d) (lacks_exports d) (whole_file 12 file)
      (refusal_at 19 (first_place file (scan_of text).tokens)) d e gives in (
        small,
        subst (IsDescription file text) same is,
        subst (λ (x : Description). checked file (scan_of text).tokens x ≡ Ok e) same gives,
      )
  checked_answer d (Err (fault.Diag diag)) small is gives = inr (inr (small, d, is, gives))
  checked_answer d (Err fault.NoMemory) small is gives = tt
