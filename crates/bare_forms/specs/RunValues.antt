-- The values of the parts of a run.
use Rattle.bare_forms.specs.Runs.{Part}

abbrev pub part_value : {A B : Type 0} → (A → B) → Part A → Part B
part_value h (Part.Atom x) = Part.Atom (h x)
part_value h (Part.Operator op) = Part.Operator op
