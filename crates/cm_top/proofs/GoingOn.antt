-- Meanings of which the second counts only where the first ends well: how the whole ends, and what it leaves.
use Rattle.std.proofs.Common.{◌≡◌, ◌≢◌, ◌∙◌, sym, ap, refl, inl, inr, ℕ, List, ◌++◌, Some}
use Rattle.cm_base.specs.Definitions.{Definitions}
use Rattle.cm_base.specs.Derived.{ToolRules}
use Rattle.cm_base.specs.Files.{Files}
use Rattle.cm_base.specs.Keeping.{Keeps}
use Rattle.cm_bytes.specs.Hashes.{HashesApart}
use Rattle.bin_store.specs.GoodStore.{StoreIsGood}
use Rattle.command_parts.specs.Headline.{Ends, FromGood, IsPlain, KeepsOutside}
use Rattle.command_parts.specs.Performing.{between}
use Rattle.command_parts.specs.declared.status.Status.{Status}
use Rattle.command_parts.specs.declared.status.Status.TheVariants as status
use Rattle.command_parts.proofs.Ending.{plain_or}
use Rattle.command_parts.proofs.Pieces.{apart_left}
use Rattle.cm_top.specs.Generating.{going_on, on_status}
use Rattle.cm_top.specs.Headline.{Ran}
use Rattle.cm_top.specs.Meaning.{Meaning, then_command}
use Rattle.cm_top.specs.Performing.{Does, Performs, Stage, rules_among}
use Rattle.cm_top.proofs.Counts.{rules_stay}
use Rattle.cm_top.proofs.InTurn.{by_rules_of, does_alike, first_does, then_does}

module _ (first rest : Meaning) where
  by_status : (s : Status) (P : Meaning → Type 0) → P (then_command first rest) → P first → P (on_status s first rest)
  by_status status.Ok P both one = both
  by_status status.Diagnostic P both one = one
  by_status status.Usage P both one = one
  by_status status.FolderFault P both one = one
  by_status status.SinkFault P both one = one
  by_status status.NoMemory P both one = one
  by_status status.ToolFault P both one = one

  -- what holds of both and of the first alone
  pub either_way : (P : Meaning → Type 0) → P (then_command first rest) → P first → P (going_on first rest)
  either_way P both one = by_status first.effect.status P both one

  on_well : first.effect.status ≡ status.Ok → then_command first rest ≡ going_on first rest
  on_well is = ap (λ s. on_status s first rest) (sym is)

  on_other : (s : Status) → s ≢ status.Ok → first ≡ on_status s first rest
  on_other status.Ok other = absurd (other refl)
  on_other status.Diagnostic other = refl
  on_other status.Usage other = refl
  on_other status.FolderFault other = refl
  on_other status.SinkFault other = refl
  on_other status.NoMemory other = refl
  on_other status.ToolFault other = refl

  apart_first : (known : List (List ℕ)) → HashesApart (known ++ (going_on first rest).effect.interfaces)
      → HashesApart (known ++ first.effect.interfaces)
  apart_first known =
      either_way (λ m. HashesApart (known ++ m.effect.interfaces) → HashesApart (known ++ first.effect.interfaces))
      (apart_left known first.effect.interfaces rest.effect.interfaces) (λ apart. apart)

module _ (by : Definitions) (d1 m1 d2 m2 : Files → Meaning) (end : Status) where
  abbrev on : (Files → Meaning) → (Files → Meaning) → Files → Meaning
  on a b files = going_on (a files) (b (a files).effect.files)

  abbrev both : (Files → Meaning) → (Files → Meaning) → Files → Meaning
  both a b files = then_command (a files) (b (a files).effect.files)

  -- the first ended well, and the second came
  pub goes_on : (s0 s1 s2 : Stage) → Does by d1 m1 status.Ok s0 s1 → Does by d2 m2 end s1 s2
      → Does by (on d1 d2) (on m1 m2) end s0 s2
  goes_on s0 s1 s2 one two =
      does_alike by (both d1 d2) (both m1 m2) (on d1 d2) (on m1 m2) end s0 s2
      (λ files is. on_well (d1 files) (d2 (d1 files).effect.files) (sym (one.effect.leaves files is tt).ends))
      (λ files is known apart good. on_well (m1 files) (m2 (m1 files).effect.files)
      (sym ((one.effect.leaves files is tt).promise_ends known
      (apart_first (m1 files) (m2 (m1 files).effect.files) known apart) good)))
      (then_does by d1 m1 d2 m2 end s0 s1 s2 one two)

  -- it ended otherwise, and nothing came behind it
  module _ (s0 s1 : Stage) (other : end ≢ status.Ok) (one : Does by d1 m1 end s0 s1) where
    ended : IsPlain end → Does by (on d1 d2) (on m1 m2) end s0 s1
    ended plain =
        does_alike by d1 m1 (on d1 d2) (on m1 m2) end s0 s1
        (λ files is. on_other (d1 files) (d2 (d1 files).effect.files) (d1 files).effect.status
        (λ well. other ((one.effect.leaves files is plain).ends ∙ well)))
        (λ files is known apart good. on_other (m1 files) (m2 (m1 files).effect.files) (m1 files).effect.status
        (λ well. other ((one.effect.leaves files is plain).promise_ends known
        (apart_first (m1 files) (m2 (m1 files).effect.files) known apart) good ∙ well)))
        one

    cut_off : (IsPlain end → ⊥) → Does by (on d1 d2) (on m1 m2) end s0 s1
    cut_off fault =
        let all = first_does by d1 m1 d2 m2 end s0 s1 fault one in
        record {
          effect = record {
            does = λ files is text before.
                either_way (d1 files) (d2 (d1 files).effect.files)
                (λ m. Ends end m.effect (between text s0.state s1.state))
                (all.effect.does files is text before) (one.effect.does files is text before);
            promise = λ files is text before. record {
              ends = either_way (m1 files) (m2 (m1 files).effect.files)
                  (λ m. FromGood by files m.effect (λ known. Ends end m.effect (between text s0.state s1.state)))
                  (all.effect.promise files is text before).ends (one.effect.promise files is text before).ends;
            };
            frame = λ files is.
                either_way (d1 files) (d2 (d1 files).effect.files)
                (λ m. Keeps (Some files) s1.state.holds m.effect.paths)
                (all.effect.frame files is) (one.effect.frame files is);
            outside = λ files is.
                either_way (d1 files) (d2 (d1 files).effect.files)
                (λ m. KeepsOutside m.effect.outside files s1.state.holds)
                (all.effect.outside files is) (one.effect.outside files is);
            stays = λ files is. record {
              frame = either_way (m1 files) (m2 (m1 files).effect.files)
                  (λ m. FromGood by files m.effect (λ known. Keeps (Some files) s1.state.holds m.effect.paths))
                  (all.effect.stays files is).frame (one.effect.stays files is).frame;
              good = either_way (m1 files) (m2 (m1 files).effect.files)
                  (λ m. FromGood by files m.effect
                  (λ known. StoreIsGood by (known ++ m.effect.interfaces) s1.state.holds))
                  (all.effect.stays files is).good (one.effect.stays files is).good;
            };
            leaves = λ files is plain. absurd (fault plain);
          };
          tools = one.tools;
          runs = λ files is.
              either_way (d1 files) (d2 (d1 files).effect.files) (λ m. Ran end m.runs s0.tools s1.tools)
              (all.runs files is) (one.runs files is);
          promise = λ files is.
              either_way (m1 files) (m2 (m1 files).effect.files)
              (λ m. FromGood by files m.effect (λ known. Ran end m.runs s0.tools s1.tools))
              (all.promise files is) (one.promise files is);
        }

    pub stops : Does by (on d1 d2) (on m1 m2) end s0 s1
    stops =
        elim (plain_or end) [
          | inl plain ↦ ended plain
          | inr fault ↦ cut_off fault
        ]

-- .. with the classes and rules of the box
pub goes_on_by : (by : Definitions) (d1 m1 d2 m2 : ToolRules → Files → Meaning) (end : Status) (s0 s1 s2 : Stage)
    → Performs by d1 m1 status.Ok s0 s1 → Performs by d2 m2 end s1 s2
    → Performs by (λ rules files. going_on (d1 rules files) (d2 rules (d1 rules files).effect.files))
    (λ rules files. going_on (m1 rules files) (m2 rules (m1 rules files).effect.files)) end s0 s2
goes_on_by by d1 m1 d2 m2 end s0 s1 s2 one two =
    let rules = rules_among s0.tools in
    goes_on by (d1 rules) (m1 rules) (d2 rules) (m2 rules) end s0 s1 s2 one
    (by_rules_of by d2 m2 end s0 s1 s2 (rules_stay s0.tools s1.tools one.tools) two)
