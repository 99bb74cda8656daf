-- What is read again of the text that a description is printed as.
use Rattle.std.specs.Prelude.{◌≡◌, ◌<◌, ℕ, List, [], map, length, Result, Ok, Err}
use Rattle.cm_base.specs.Diags.{whole_file}
use Rattle.cm_base.specs.declared.diag.Place.{Place}
use Rattle.cm_base.specs.declared.fault.Fault.{Fault}
use Rattle.cm_base.specs.declared.fault.Fault.TheVariants as fault
use Rattle.cm_conditions.specs.declared.line.Line.{Line}
use Rattle.cm_description.specs.Answers.{IsDescription, ReadsDescription}
use Rattle.cm_description.specs.declared.description.Description.{Description}
use Rattle.cm_description.specs.declared.description.Entry.{Entry}
use Rattle.cm_description.specs.declared.description.MemberEntry.{MemberEntry}

-- ---- the same up to places

-- a place of no file
abbrev pub nowhere : Place
nowhere = record { file = []; line = 0; col = 0 }

abbrev pub unplaced_line : Line → Line
unplaced_line line = record { at = nowhere; body = line.body }

abbrev pub unplaced_entry : Entry → Entry
unplaced_entry entry = record { at = nowhere; name = entry.name }

abbrev pub unplaced_member : MemberEntry → MemberEntry
unplaced_member member =
    record { at = nowhere; path = member.path; class = member.class; options = member.options }

-- a description without its places
abbrev pub unplaced : Description → Description
unplaced d = record {
  library = d.library;
  entries = map unplaced_entry d.entries;
  export_lines = map unplaced_line d.export_lines;
  members = map unplaced_member d.members;
  member_lines = map unplaced_line d.member_lines;
}

-- two descriptions that say the same, perhaps in different places
abbrev pub AreAlike : Description → Description → Type 0
AreAlike d e = unplaced d ≡ unplaced e

-- ---- reading again

-- what some text is, within its size and its limits
abbrev pub IsRead : Description → Type 0
IsRead d = (file text : List ℕ) × ReadsDescription file text (Ok d)

-- a description that says the same, or the refusal of a text that has become too long
abbrev pub ReadsAgain : Description → List ℕ → List ℕ → Result Description Fault → Type 0
ReadsAgain d file text (Ok e) = AreAlike d e
ReadsAgain d file text (Err (fault.Diag diag)) = (65536 < length text) × (diag ≡ whole_file 12 file)
ReadsAgain d file text (Err fault.NoMemory) = Unit {0}

-- The text is one of the grammar, in whatever file, and says the same. Each reading of it gives the same, or 12 where
-- the text passes its size.
pub record IsPrinted (d : Description) (text : List ℕ) : Type 0 where
  pub phrase : (file : List ℕ) → (e : Description) × IsDescription file text e × AreAlike d e
  pub again : (file : List ℕ) (r : Result Description Fault) → ReadsDescription file text r → ReadsAgain d file text r
