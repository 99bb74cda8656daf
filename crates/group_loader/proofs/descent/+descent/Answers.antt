use Rattle.std.proofs.Common.{◌≡◌, ◌∙◌, ◌+◌, Ok, Err, ap, ap₂, refl, length, sym, subst, arith, drop, get_or}
use Rattle.project_checks.specs.Loaded.{with_finished, with_membership}
use Rattle.project_checks.specs.Whole.{IsOpen, IsRead}
use Rattle.project_loading.specs.Projects.{begun, described, number_of, setting_of}
use Rattle.loader_parts.specs.Loaders.{GoesOn}
use Rattle.loader_parts.proofs.GoingOn.{begun_open, begun_ready, ended_before, entered_goes, goes_through, group_goes, joined_goes}
use Rattle.loader_parts.proofs.GroupSteps.{begun_copied}
use Rattle.loader_parts.proofs.MemberSteps.{item_at, within_list}
use Rattle.group_loader.specs.Answers.{answer, of_plain}
use Rattle.group_loader.specs.Loading.{scene_of, states_by}
use Rattle.group_loader.proofs.Ending.{reads}
use Rattle.group_loader.proofs.Groups.{chosen_stops, end_stops, group_done, group_stops, join_stops, known_done, known_stops, level_goes, level_none, level_stops, members_done, members_stop, open_stops, start_stops}
use Rattle.group_loader.proofs.MemberSteps.{found_stops, is_made, is_plain, member_loaded, member_passed, member_stops, members_done as list_done, leads_as, skip_stops, source_stops}
use Rattle.group_loader.proofs.Nearness.{found_near, found_short}
use Rattle.group_loader.proofs.descent.+descent.Goals.{load_members-in-Some+in_ok-load_member, load_members-in_default}
use Rattle.group_loader.proofs.descent.+descent.Goals as goal

-- ---- a level

pub enter-returns-in_default-clause-loads : goal.enter-returns-in_default-clause-loads
enter-returns-in_default-clause-loads g t c =
    level_none c.args.context.now.defs.now c.args.context.now.anchors.now c.args.levels c.args.at.now c.args.name.now
    c.args.loader.now.progress c.refuse.result _ (omega arith) c.refuse.ensures

pub enter-returns-in_err-description-clause-loads : goal.enter-returns-in_err-description-clause-loads
enter-returns-in_err-description-clause-loads g t c =
    let e = c.in_err-description.field-0.0 in
    level_stops c.args.context.now.defs.now c.args.context.now.anchors.now c.args.levels c.args.at.now c.args.name.now
    c.args.loader.now.progress c.in-Some.below (omega arith) c.from_residual.result (of_plain e)
    c.args.loader.now.progress _ _ c.from_residual.ensures.1
    (reads _ _ _ _ _ (λ files. described (setting_of files c.args.context.now.anchors.now c.args.context.now.defs.now)
    c.args.at.now c.args.name.now c.args.loader.now.progress) c.in_err-description.ensures.same (Err e)
    c.in_err-description.ensures.cause c.in_err-description.ensures.gives)

pub enter-returns-clause-loads : goal.enter-returns-clause-loads
enter-returns-clause-loads g t c =
    let d = c.in_ok-description.description in
    level_goes c.args.context.now.defs.now c.args.context.now.anchors.now c.args.levels c.args.at.now c.args.name.now
    c.args.loader.now.progress c.in-Some.below (omega arith) d
    (answer c.load_described.result c.load_described.new.loader.progress) _ _ _
    (reads _ _ _ _ _ (λ files. described (setting_of files c.args.context.now.anchors.now c.args.context.now.defs.now)
    c.args.at.now c.args.name.now c.args.loader.now.progress) c.in_ok-description.ensures.same (Ok d)
    c.in_ok-description.ensures.cause c.in_ok-description.ensures.gives)
    c.load_described.ensures.loads

-- ---- a description

pub load_described-load_members-requires : goal.load_described-load_members-requires
load_described-load_members-requires g t c κs within =
    let old = c.args.loader.now in
    let new = c.begin.new.self in
    let group = c.begun-group.result.group in
    let starts = c.in_ok-begin.ensures.begun in
    let group_is : group ≡ begun c.args.name.now c.args.description =
    begun_copied group c.in_ok-copy.field-0 c.args.name.now c.args.description c.begun-group.ensures.group
    c.in_ok-copy.ensures in
    let going = begun_open old new group c.requires.ready starts in (
      omega arith,
      (
        within.0,
        (
          within.1,
          (
            begun_ready old new group c.requires.ready (subst IsRead (sym group_is) c.requires.read)
                c.in_ok-begin.ensures.tables starts,
            (subst (IsOpen new.progress) (sym c.next_number-number.ensures) going, c.requires.near),
          ),
        ),
      ),
    )

pub load_described-returns-in_err-chosen-clause-loads : goal.load_described-returns-in_err-chosen-clause-loads
load_described-returns-in_err-chosen-clause-loads g t c =
    chosen_stops c.args.context.now.defs.now c.args.context.now.anchors.now c.args.levels c.args.name.now
    c.args.description c.args.loader.now.progress c.from_residual.result c.in_err-chosen.field-0.0
    c.args.loader.now.progress _ c.from_residual.ensures.1 c.in_err-chosen.ensures

pub load_described-returns-in_err-copy-clause-loads : goal.load_described-returns-in_err-copy-clause-loads
load_described-returns-in_err-copy-clause-loads g t c =
    start_stops c.args.context.now.defs.now c.args.context.now.anchors.now c.args.levels c.args.name.now
    c.args.description c.args.loader.now.progress c.from_residual-in_err-copy.result c.args.loader.now.progress _
    c.from_residual-in_err-copy.ensures.1

pub load_described-returns-in_err-begin-clause-loads : goal.load_described-returns-in_err-begin-clause-loads
load_described-returns-in_err-begin-clause-loads g t c =
    start_stops c.args.context.now.defs.now c.args.context.now.anchors.now c.args.levels c.args.name.now
    c.args.description c.args.loader.now.progress c.from_residual-in_err-begin.result c.begin.new.self.progress _
    c.from_residual-in_err-begin.ensures.1

pub load_described-returns-in_err-load_members-clause-loads :
    goal.load_described-returns-in_err-load_members-clause-loads
load_described-returns-in_err-load_members-clause-loads g t c =
    members_stop c.args.context.now.defs.now c.args.context.now.anchors.now c.args.levels c.args.name.now
    c.args.description c.args.loader.now.progress c.in_ok-chosen.chosen c.next_number-number.result
    c.begun-group.result.group c.begun-group.result.members c.begin.new.self.progress c.in_ok-chosen.ensures
    c.next_number-number.ensures
    (begun_copied c.begun-group.result.group c.in_ok-copy.field-0 c.args.name.now c.args.description
    c.begun-group.ensures.group c.in_ok-copy.ensures)
    c.begun-group.ensures.members c.in_ok-begin.ensures.begun
    c.from_residual-in_err-load_members.result c.in_err-load_members.field-0.0 c.load_members.new.loader.progress _ _
    c.from_residual-in_err-load_members.ensures.1 c.in_err-load_members.ensures.loads

pub load_described-returns-in_err-finish-clause-loads : goal.load_described-returns-in_err-finish-clause-loads
load_described-returns-in_err-finish-clause-loads g t c =
    end_stops c.args.context.now.defs.now c.args.context.now.anchors.now c.args.levels c.args.name.now
    c.args.description c.args.loader.now.progress c.in_ok-chosen.chosen c.next_number-number.result
    c.begun-group.result.group c.begun-group.result.members c.begin.new.self.progress c.in_ok-chosen.ensures
    c.next_number-number.ensures
    (begun_copied c.begun-group.result.group c.in_ok-copy.field-0 c.args.name.now c.args.description
    c.begun-group.ensures.group c.in_ok-copy.ensures)
    c.begun-group.ensures.members c.in_ok-begin.ensures.begun
    c.from_residual-in_err-finish.result c.load_members.new.loader.progress c.finish.new.self.progress _ _
    c.from_residual-in_err-finish.ensures.1 c.in_ok-load_members.ensures.loads

pub load_described-returns-clause-loads : goal.load_described-returns-clause-loads
load_described-returns-clause-loads g t c =
    members_done c.args.context.now.defs.now c.args.context.now.anchors.now c.args.levels c.args.name.now
    c.args.description c.args.loader.now.progress c.in_ok-chosen.chosen c.next_number-number.result
    c.begun-group.result.group c.begun-group.result.members c.begin.new.self.progress c.in_ok-chosen.ensures
    c.next_number-number.ensures
    (begun_copied c.begun-group.result.group c.in_ok-copy.field-0 c.args.name.now c.args.description
    c.begun-group.ensures.group c.in_ok-copy.ensures)
    c.begun-group.ensures.members c.in_ok-begin.ensures.begun
    c.load_members.new.loader.progress c.finish.new.self.progress _ _
    c.in_ok-load_members.ensures.loads c.in_ok-finish.ensures.finished

pub load_described-returns-clause-goes : goal.load_described-returns-clause-goes
load_described-returns-clause-goes g t c =
    group_goes c.args.loader.now c.begin.new.self c.load_members.new.loader c.finish.new.self
    c.begun-group.result.group c.requires.ready c.in_ok-begin.ensures.begun c.in_ok-load_members.ensures.goes
    (c.in_ok-finish.ensures.finished
    ∙ ap (λ number. with_finished number c.load_members.new.loader.progress) c.next_number-number.ensures)
    c.in_ok-finish.ensures.tables

-- ---- a group that is a member

pub load_group-returns-in_err-enter-clause-loads : goal.load_group-returns-in_err-enter-clause-loads
load_group-returns-in_err-enter-clause-loads g t c =
    group_stops c.args.context.now.defs.now c.args.context.now.anchors.now c.args.levels c.args.holder c.args.at.now
    c.args.name.now c.args.loader.now.progress (number_of c.args.loader.now.progress c.args.name.now)
    (sym c.number_of.ensures ∙ c.in_default.is)
    c.from_residual.result c.in_err-enter.field-0.0 c.enter.new.loader.progress _ _
    c.from_residual.ensures.1 c.in_err-enter.ensures.loads

pub load_group-returns-in_err-join-clause-loads : goal.load_group-returns-in_err-join-clause-loads
load_group-returns-in_err-join-clause-loads g t c =
    join_stops c.args.context.now.defs.now c.args.context.now.anchors.now c.args.levels c.args.holder c.args.at.now
    c.args.name.now c.args.loader.now.progress (number_of c.args.loader.now.progress c.args.name.now)
    (sym c.number_of.ensures ∙ c.in_default.is)
    c.from_residual-in_err-join.result c.enter.new.loader.progress c.join.new.self.progress _ _
    c.from_residual-in_err-join.ensures.1 c.in_ok-enter.ensures.loads

pub load_group-returns-in_default-clause-loads : goal.load_group-returns-in_default-clause-loads
load_group-returns-in_default-clause-loads g t c =
    group_done c.args.context.now.defs.now c.args.context.now.anchors.now c.args.levels c.args.holder c.args.at.now
    c.args.name.now c.args.loader.now.progress (number_of c.args.loader.now.progress c.args.name.now)
    (sym c.number_of.ensures ∙ c.in_default.is)
    c.next_number-member.result c.enter.new.loader.progress c.join.new.self.progress _ _
    c.next_number-member.ensures c.in_ok-enter.ensures.loads c.in_ok-join.ensures.joined

pub load_group-returns-in_default-clause-goes : goal.load_group-returns-in_default-clause-goes
load_group-returns-in_default-clause-goes g t c =
    entered_goes c.args.loader.now c.enter.new.loader c.join.new.self c.args.holder c.requires.going
    c.in_ok-enter.ensures.goes c.in_ok-enter.ensures.more c.in_ok-join.ensures.tables
    (c.in_ok-join.ensures.joined
    ∙ ap (λ number. with_membership c.args.holder number c.enter.new.loader.progress) c.next_number-member.ensures)

pub load_group-returns-then-not-is_finished-clause-loads : goal.load_group-returns-then-not-is_finished-clause-loads
load_group-returns-then-not-is_finished-clause-loads g t c =
    open_stops c.args.context.now.defs.now c.args.context.now.anchors.now c.args.levels c.args.holder c.args.at.now
    c.args.name.now c.args.loader.now.progress (number_of c.args.loader.now.progress c.args.name.now) c.in-Some.number
    (sym c.number_of.ensures ∙ c.in-Some.is) c.refuse.result _
    (sym c.is_finished.ensures ∙ c.if-not-is_finished.true) c.refuse.ensures

pub load_group-returns-in_err-join-2-clause-loads : goal.load_group-returns-in_err-join-2-clause-loads
load_group-returns-in_err-join-2-clause-loads g t c =
    known_stops c.args.context.now.defs.now c.args.context.now.anchors.now c.args.levels c.args.holder c.args.at.now
    c.args.name.now c.args.loader.now.progress (number_of c.args.loader.now.progress c.args.name.now) c.in-Some.number
    (sym c.number_of.ensures ∙ c.in-Some.is) c.from_residual-in_err-join-2.result c.join-2.new.self.progress _
    c.from_residual-in_err-join-2.ensures.1

pub load_group-returns-clause-loads : goal.load_group-returns-clause-loads
load_group-returns-clause-loads g t c =
    known_done c.args.context.now.defs.now c.args.context.now.anchors.now c.args.levels c.args.holder c.args.at.now
    c.args.name.now c.args.loader.now.progress (number_of c.args.loader.now.progress c.args.name.now) c.in-Some.number
    (sym c.number_of.ensures ∙ c.in-Some.is) c.join-2.new.self.progress _
    (sym c.is_finished.ensures ∙ c.if-not-is_finished.false) c.in_ok-join-2.ensures.joined

pub load_group-returns-clause-goes : goal.load_group-returns-clause-goes
load_group-returns-clause-goes g t c =
    joined_goes c.args.loader.now c.join-2.new.self c.args.holder c.in-Some.number c.requires.ready c.requires.going
    (ended_before c.args.loader.now.progress c.in-Some.number
    (sym c.is_finished.ensures ∙ c.if-not-is_finished.false))
    c.in_ok-join-2.ensures.tables c.in_ok-join-2.ensures.joined

-- ---- one member

pub load_member-returns-in_err-is_skipped-clause-loads : goal.load_member-returns-in_err-is_skipped-clause-loads
load_member-returns-in_err-is_skipped-clause-loads g t c =
    skip_stops c.args.context.now.defs.now c.args.context.now.anchors.now c.args.levels c.args.holder.now.number
    c.args.holder.now.name.now c.args.member.now c.args.loader.now.progress c.from_residual.result
    c.args.loader.now.progress _ c.from_residual.ensures.1

pub load_member-returns-in-Some-clause-loads : goal.load_member-returns-in-Some-clause-loads
load_member-returns-in-Some-clause-loads g t c =
    let rule = g.T.Tool.rule c.in-Some.ensures.tool.place.tool in
    is_made c.args.context.now.defs.now c.args.context.now.anchors.now c.args.levels c.args.holder.now.number
    c.args.holder.now.name.now c.args.member.now c.args.loader.now.progress g.T.Tool.class g.T.Tool.rule g.T.Tool.ran
    g.T.Tool.faults c.args.tools.now (answer c.load_made.result c.load_made.new.loader.progress) _ _ refl _
    (sym c.in_ok-is_skipped.ensures ∙ c.if-branch.false) c.in-Some.ensures.named
    (c.load_made.ensures.loads rule c.in-Some.ensures.named)

pub load_member-returns-in-None-clause-loads : goal.load_member-returns-in-None-clause-loads
load_member-returns-in-None-clause-loads g t c =
    is_plain c.args.context.now.defs.now c.args.context.now.anchors.now c.args.levels c.args.holder.now.number
    c.args.holder.now.name.now c.args.member.now c.args.loader.now.progress g.T.Tool.class g.T.Tool.rule g.T.Tool.ran
    g.T.Tool.faults c.args.tools.now (answer c.load_plain.result c.load_plain.new.loader.progress) _ _ refl
    (sym c.in_ok-is_skipped.ensures ∙ c.if-branch.false) c.in-None.ensures c.load_plain.ensures.loads

-- ---- several members

pub load_members-returns-in_err-load_member-clause-loads : goal.load_members-returns-in_err-load_member-clause-loads
load_members-returns-in_err-load_member-clause-loads g t c =
    let items = c.args.chosen.now in
    let slice = c.as_slice-number-items.result.now in
    let i = c.loop-number.number-index in
    member_stops c.args.context.now.defs.now c.args.context.now.anchors.now c.args.levels c.args.holder.now.number
    c.args.holder.now.name.now c.args.members.now items i (get_or slice i 0) c.loop-number.loader.progress
    (within_list items slice i c.as_slice-number-items.ensures c.loop-number-test.true)
    (item_at items slice i c.as_slice-number-items.ensures c.loop-number-test.true) _ _ _ c.loop-number.invariant.back
    c.in-Some.member.now (sym c.in-Some.ensures.item) c.from_residual.result c.in_err-load_member.field-0.0
    c.load_member.new.loader.progress _ c.from_residual.ensures.1 c.in_err-load_member.ensures.loads

pub load_members-loop-number-preserved : goal.load_members-loop-number-preserved
load_members-loop-number-preserved g t c =
    let before = c.loop-number.invariant in
    let items = c.args.chosen.now in
    let slice = c.as_slice-number-items.result.now in
    let i = c.loop-number.number-index in
    let p = c.loop-number.loader.progress in
    let lt = within_list items slice i c.as_slice-number-items.ensures c.loop-number-test.true in
    let here = item_at items slice i c.as_slice-number-items.ensures c.loop-number-test.true in
    elim c.match-get.branch [
      | load_members-in-Some+in_ok-load_member w ↦
          let step = w.in_ok-load_member.ensures in
          record {
            goes = subst (GoesOn c.args.loader.now) (sym w.loader-is)
                (goes_through c.args.loader.now c.loop-number.loader w.load_member.new.loader before.goes step.goes);
            back = leads_as c.args.context.now.defs.now c.args.context.now.anchors.now c.args.levels
                c.args.holder.now.number c.args.holder.now.name.now c.args.members.now (drop (i + 1) items) _ _ _
                w.load_member.new.loader.progress c.match-get.loader.progress _
                (ap₂ (λ folder tools. scene_of (g.F.Folder.holds folder) (g.F.Folder.faults folder)
                (states_by g.T.Tool.class g.T.Tool.rule g.T.Tool.ran g.T.Tool.faults tools)) w.folder-is w.tools-is)
                (ap (λ loader. loader.progress) w.loader-is)
                (member_loaded c.args.context.now.defs.now c.args.context.now.anchors.now c.args.levels
                c.args.holder.now.number c.args.holder.now.name.now c.args.members.now items i
                (get_or slice i 0) p lt here
                _ _ _ before.back w.in-Some.member.now (sym w.in-Some.ensures.item) w.load_member.new.loader.progress _
                step.loads);
          }
      | load_members-in_default w ↦
          record {
            goes = subst (GoesOn c.args.loader.now) (sym w.loader-is) before.goes;
            back = leads_as c.args.context.now.defs.now c.args.context.now.anchors.now c.args.levels
                c.args.holder.now.number c.args.holder.now.name.now c.args.members.now (drop (i + 1) items) _ _ _
                p c.match-get.loader.progress _
                (ap₂ (λ folder tools. scene_of (g.F.Folder.holds folder) (g.F.Folder.faults folder)
                (states_by g.T.Tool.class g.T.Tool.rule g.T.Tool.ran g.T.Tool.faults tools)) w.folder-is w.tools-is)
                (ap (λ loader. loader.progress) w.loader-is)
                (member_passed c.args.context.now.defs.now c.args.context.now.anchors.now c.args.levels
                c.args.holder.now.number c.args.holder.now.name.now c.args.members.now items i
                (get_or slice i 0) p lt here
                _ _ _ before.back (sym w.in_default.ensures.item));
          }
    ]

pub load_members-returns-clause-loads : goal.load_members-returns-clause-loads
load_members-returns-clause-loads g t c =
    let k = c.loop-number-test.false in
    let long = ap length c.as_slice-number-items.ensures in
    list_done c.args.context.now.defs.now c.args.context.now.anchors.now c.args.levels c.args.holder.now.number
    c.args.holder.now.name.now c.args.members.now c.args.chosen.now c.loop-number.number-index
    c.loop-number.loader.progress _ _ _ (omega (arith, k, long)) c.loop-number.invariant.back

-- ---- a member of no tool's class

pub load_plain-load_group-requires : goal.load_plain-load_group-requires
load_plain-load_group-requires g t c κs within =
    let near = found_near c.args.context.now.anchors.now c.args.holder.now.name.now c.args.member.now
    c.in_ok-found.found c.args.levels c.requires.near c.in_ok-found.ensures in
    (omega arith, (within.0, (within.1, (c.requires.ready, (c.requires.going, near)))))

pub load_plain-load_source-requires-clause-named : goal.load_plain-load_source-requires-clause-named
load_plain-load_source-requires-clause-named g t c =
    found_short c.args.context.now.anchors.now c.args.holder.now.name.now c.args.member.now c.in_ok-found.found
    c.args.levels c.requires.near c.in_ok-found.ensures

pub load_plain-returns-in_err-found-clause-loads : goal.load_plain-returns-in_err-found-clause-loads
load_plain-returns-in_err-found-clause-loads g t c =
    found_stops c.args.context.now.defs.now c.args.context.now.anchors.now c.args.levels c.args.holder.now.number
    c.args.holder.now.name.now c.args.member.now c.args.loader.now.progress c.from_residual.result
    c.in_err-found.field-0.0 c.args.loader.now.progress _ c.from_residual.ensures.1 c.in_err-found.ensures

pub load_plain-returns-in_err-load_source-in-Sml-clause-loads :
    goal.load_plain-returns-in_err-load_source-in-Sml-clause-loads
load_plain-returns-in_err-load_source-in-Sml-clause-loads g t c =
    source_stops c.args.context.now.defs.now c.args.context.now.anchors.now c.args.levels c.args.holder.now.number
    c.args.holder.now.name.now c.args.member.now c.args.loader.now.progress c.in_ok-found.found c.in_ok-found.ensures
    _ _ _ _ _ c.in_err-load_source-in-Sml.ensures.same c.in-Sml.is c.from_residual-in_err-load_source-in-Sml.result
    c.in_err-load_source-in-Sml.field-0.0 c.load_source.new.loader.progress c.load_source.new.loader.progress
    c.from_residual-in_err-load_source-in-Sml.ensures.1 c.in_err-load_source-in-Sml.ensures.cause
    c.in_err-load_source-in-Sml.ensures.gives
