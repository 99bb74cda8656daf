-- The edits of a script are of the project, and a front of its file shows whether it is too large.
use Rattle.std.proofs.Common.{◌≡◌, ◌⊎◌, ap, subst, refl, inl, inr, ℕ, ◌+◌, Bool, true, false, List, [], ◌∷◌, Option, Some, None, if◌then◌else◌}
use Rattle.std.specs.Prelude.{IfOk, Result, Ok, Err, nat_lt, length}
use Rattle.std.specs.List.{AllByRecursion}
use Rattle.std.specs.Option.{option_map_or}
use Rattle.cm_base.specs.Calls.{Gives}
use Rattle.cm_base.specs.Diags.{whole_file, ◌>>=◌}
use Rattle.cm_base.specs.Files.{front_read, is_stored}
use Rattle.cm_base.specs.declared.diag.Diag.{Diag}
use Rattle.cm_base.specs.declared.fault.Fault.{Fault}
use Rattle.path_anchors.specs.Laws.{IsAnchored, IsPlain}
use Rattle.path_anchors.specs.Names.{IsName, resolved}
use Rattle.path_anchors.specs.Pathconfig.{AreBindings, is_skipped, lines_of}
use Rattle.path_anchors.proofs.NameLaws.{lies_where_it_says}
use Rattle.project_loading.proofs.Levels.{went_on}
use Rattle.loading_laws.proofs.Outside.{names_outside}
use Rattle.loader_parts.proofs.Fronts.{by_front}
use Rattle.session_scripts.specs.Scripts.{are_command, bad_line, begin_with_bar, behind, command_front, command_line, content_of, edited_path, file_front, file_line, has_bar, line_of, or_refused, remove_front, remove_line, said, script_of, step_of, steps_from, steps_of, with_step, words_of}
use Rattle.session_scripts.specs.declared.line.Line.{Line}
use Rattle.session_scripts.specs.declared.line.Line.TheVariants as line
use Rattle.session_scripts.specs.declared.step.Step.{Step}
use Rattle.session_scripts.specs.declared.step.Step.TheVariants as step
use Rattle.command_parts.specs.Sessions.{IsLawful, script_at}

-- where no anchor is bound, a name is its path, and lies outside the store
name_outside : (written name : List ℕ) → resolved [] [] written ≡ Ok name → is_stored name ≡ false
name_outside written name gives = by_kind (lies_where_it_says [] name none is)
  where
    none : AreBindings []
    none = record { text = []; gives = refl }

    is : IsName [] name
    is = record { base = []; written = written; gives = gives }

    by_kind : IsPlain [] name ⊎ IsAnchored [] name → is_stored name ≡ false
    by_kind (inl plain) = subst (λ path. is_stored path ≡ false) plain.path (names_outside [] name none is).file
    by_kind (inr anchored) = absurd (cc (anchored.bound))

unrefused : (file written : List ℕ) (number : ℕ) (r : Result (List ℕ) ℕ) (name : List ℕ)
    → or_refused file number written r ≡ Ok name → r ≡ Ok name
unrefused file written number (Ok found) name is = let same : found ≡ name = cc (is) in ap Ok same
unrefused file written number (Err n) name is = absurd (cc (is))

path_outside : (file written : List ℕ) (number : ℕ) (path : List ℕ) → edited_path file number written ≡ Ok path
    → is_stored path ≡ false
path_outside file [] number path is = absurd (cc (is))
path_outside file (byte ∷ bytes) number path is =
    name_outside (byte ∷ bytes) path
    (unrefused file (byte ∷ bytes) number (resolved [] [] (byte ∷ bytes)) path is)

-- ---- lines

abbrev LawfulLine : Line → Type 0
LawfulLine (line.File path) = is_stored path ≡ false
LawfulLine (line.Remove path) = is_stored path ≡ false
LawfulLine (line.Command words) = Unit {0}
LawfulLine line.Nothing = Unit {0}

from_if : {A : Type 0} (b : Bool) (diag : Diag) (r : Result A Diag) (a : A)
    → ◌≡◌ {A = Result A Diag} (if b then Err diag else r) (Ok a) → r ≡ Ok a
from_if true diag r a is = absurd (cc (is))
from_if false diag r a is = is

ok_same : {A : Type 0} (a b : A) → ◌≡◌ {A = Result A Diag} (Ok a) (Ok b) → a ≡ b
ok_same a b is = cc (is)

module _ (file : List ℕ) (number : ℕ) where
  file_lawful : (written : List ℕ) (l : Line) → file_line file number written ≡ Ok l → LawfulLine l
  file_lawful written l is =
      let named = went_on (edited_path file number written) (λ path. Ok (line.File path)) l is in
      subst LawfulLine (ok_same (line.File named.0) l named.2) (path_outside file written number named.0 named.1)

  remove_lawful : (written : List ℕ) (l : Line) → remove_line file number written ≡ Ok l → LawfulLine l
  remove_lawful written l is =
      let named = went_on (edited_path file number written) (λ path. Ok (line.Remove path)) l is in
      subst LawfulLine (ok_same (line.Remove named.0) l named.2) (path_outside file written number named.0 named.1)

  command_lawful : (text : List ℕ) (l : Line) → command_line file number text ≡ Ok l → LawfulLine l
  command_lawful text l is = by (are_command (words_of text)) is
    where
      by : (b : Bool) → ◌≡◌ {A = Result Line Diag} (if b then Ok (line.Command (words_of text)) else Err (bad_line file number)) (Ok l)
          → LawfulLine l
      by true is = subst LawfulLine (ok_same (line.Command (words_of text)) l is) tt
      by false is = absurd (cc (is))

  said_lawful : (a b d : Option (List ℕ)) (l : Line)
      → option_map_or (file_line file number) a (option_map_or (remove_line file number) b
      (option_map_or (command_line file number) d (Err (bad_line file number)))) ≡ Ok l → LawfulLine l
  said_lawful (Some w) b d l is = file_lawful w l is
  said_lawful None (Some w) d l is = remove_lawful w l is
  said_lawful None None (Some w) l is = command_lawful w l is
  said_lawful None None None l is = absurd (cc (is))

  line_lawful : (text : List ℕ) (l : Line) → line_of file number text ≡ Ok l → LawfulLine l
  line_lawful text l is = by (is_skipped text) is
    where
      by : (b : Bool) → ◌≡◌ {A = Result Line Diag} (if b then Ok line.Nothing else said file number text) (Ok l) → LawfulLine l
      by true is = subst LawfulLine (ok_same line.Nothing l is) tt
      by false is = said_lawful (behind file_front text) (behind remove_front text) (behind command_front text) l is

-- ---- steps

abbrev LawfulPart : Option Step → Type 0
LawfulPart None = Unit {0}
LawfulPart (Some first) = IsLawful first

part_lawful : (file : List ℕ) (number : ℕ) (l : Line) (later : List (List ℕ)) (part : Option Step) → LawfulLine l
    → step_of file number l later ≡ Ok part → LawfulPart part
part_lawful file number (line.File path) later part lawful is =
    subst LawfulPart (ok_same (Some (step.Write path (content_of later))) part is) lawful
part_lawful file number (line.Remove path) later part lawful is =
    subst LawfulPart (ok_same (Some (step.Remove path)) part
    (from_if (begin_with_bar later) (bad_line file (number + 1)) (Ok (Some (step.Remove path))) part is)) lawful
part_lawful file number (line.Command words) later part lawful is =
    subst LawfulPart (ok_same (Some (step.Command words)) part
    (from_if (begin_with_bar later) (bad_line file (number + 1)) (Ok (Some (step.Command words))) part is)) tt
part_lawful file number line.Nothing later part lawful is =
    subst LawfulPart (ok_same None part
    (from_if (begin_with_bar later) (bad_line file (number + 1)) (Ok None) part is)) tt

add_lawful : (part : Option Step) (steps : List Step) → LawfulPart part → AllByRecursion IsLawful steps
    → AllByRecursion IsLawful (with_step part steps)
add_lawful None steps first more = more
add_lawful (Some first) steps is more = (is, more)

all_lawful : (file : List ℕ) (number : ℕ) (texts : List (List ℕ)) (steps : List Step)
    → steps_of file number texts ≡ Ok steps → AllByRecursion IsLawful steps
all_lawful file number [] steps is = subst (AllByRecursion IsLawful) (ok_same [] steps is) tt
all_lawful file number (text ∷ texts) steps is = by (all_lawful file (number + 1) texts) (has_bar text) is
  where
    by : ((more : List Step) → steps_of file (number + 1) texts ≡ Ok more → AllByRecursion IsLawful more) → (b : Bool)
        → ◌≡◌ {A = Result (List Step) Diag} (if b then steps_of file (number + 1) texts
        else (line_of file number text >>= λ l. step_of file number l texts
        >>= λ part. steps_of file (number + 1) texts >>= λ more. Ok (with_step part more))) (Ok steps)
        → AllByRecursion IsLawful steps
    by later true is = later steps is
    by later false is =
        let one = went_on (line_of file number text) (λ l. step_of file number l texts
        >>= λ part. steps_of file (number + 1) texts >>= λ more. Ok (with_step part more)) steps is in
        let two = went_on (step_of file number one.0 texts)
        (λ part. steps_of file (number + 1) texts >>= λ more. Ok (with_step part more)) steps one.2 in
        let last = went_on (steps_of file (number + 1) texts) (λ more. Ok (with_step two.0 more)) steps two.2 in
        subst (AllByRecursion IsLawful) (ok_same (with_step two.0 last.0) steps last.2)
        (add_lawful two.0 last.0 (part_lawful file number one.0 texts two.0 (line_lawful file number text one.0 one.1) two.1)
        (later last.0 last.1))

pub script_lawful : (file text : List ℕ) (steps : List Step) → script_of file text ≡ Ok steps
    → AllByRecursion IsLawful steps
script_lawful file text steps is =
    all_lawful file 1 (lines_of text) steps
    (from_if (begin_with_bar (lines_of text)) (bad_line file 1) (steps_of file 1 (lines_of text)) steps
    (from_if (nat_lt 1048576 (length text)) (whole_file 12 file) (steps_from file 1 (lines_of text)) steps is))

-- ---- the front of a file

pub script_front : (name : List ℕ) (found : Option (List ℕ))
    → script_at name (front_read 1048576 found) ≡ script_at name found
script_front name None = refl
script_front name (Some bytes) =
    by_front 1048576 bytes (Err (whole_file 12 name)) (λ text. steps_from name 1 (lines_of text))

pub lawful_result : (file text : List ℕ) (r : Result (List Step) Fault) → Gives r (script_of file text)
    → IfOk r (AllByRecursion IsLawful)
lawful_result file text (Ok steps) gives = script_lawful file text steps gives
lawful_result file text (Err fault) gives = tt
