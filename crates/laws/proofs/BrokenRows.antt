-- For each law a trace that keeps all of them, and a line that would break it.
use Rattle.std.specs.Prelude.{◌≡◌, ◌&&◌, not, Bool, true, false, List, [], ◌∷◌, ◌++◌, pos}
use Rattle.posix.specs.declared.waits.WaitCall.TheVariants as wait
use Rattle.posix.specs.declared.entry.Entry.TheVariants.{Noted, Called, Reported, Marked, Looked, Stopped, Ended, Halted}
use Rattle.posix.specs.declared.call.Call.TheVariants.{Fork, SchedYield}
use Rattle.posix.specs.Common.{Line, line, nearest_marked}
use Rattle.laws.specs.Lives.{newest_life, is_living, parents_from, lawful}

-- the laws hold up to the line, and not with it
abbrev breaks : List Line → Line → Bool
breaks before l = lawful before && not (lawful (before ++ l ∷ []))

-- process 1 has a child, which ends with status 0
abbrev child_ends : List Line
child_ends = line 1 (Called 1 Fork (pos 2)) ∷ line 2 (Called 1 SchedYield (pos 0)) ∷ line 3 (Ended 2 0) ∷ []

-- its child has one, too
abbrev grandchild_ends : List Line
grandchild_ends = line 1 (Called 1 Fork (pos 2)) ∷ line 2 (Called 1 SchedYield (pos 0)) ∷ line 3 (Called 2 Fork (pos 3)) ∷ line 4 (Called 2 SchedYield (pos 0)) ∷ line 5 (Ended 3 0) ∷ []

-- process 1 has a child, whose stop it reports
abbrev stop_is_reported : List Line
stop_is_reported = line 1 (Called 1 Fork (pos 2)) ∷ line 2 (Called 1 SchedYield (pos 0)) ∷ line 3 (Stopped 2 19) ∷ line 4 (Reported 1 wait.Waitpid 2 4991) ∷ []

-- process 2, which has the mark or not, has a child, which has one, too; both end, the younger first
abbrev under : List Line → List Line
under marks =
    line 1 (Called 1 Fork (pos 2)) ∷ marks
    ++ line 3 (Called 2 Fork (pos 3)) ∷ line 4 (Called 3 Fork (pos 4)) ∷ line 5 (Ended 4 0) ∷ line 6 (Ended 3 0) ∷ []

-- each law, kept up to a line that breaks it
record BrokenLaws : Type 0 where
  broken_end_reported_twice : breaks (child_ends ++ line 4 (Reported 1 wait.Waitpid 2 0) ∷ []) (line 5 (Reported 1 wait.Waitpid 2 0)) ≡ true
  broken_status_of_another_end : breaks child_ends (line 4 (Reported 1 wait.Waitpid 2 256)) ≡ true
  broken_reported_end_is_looked_at : breaks (child_ends ++ line 4 (Reported 1 wait.Waitid 2 0) ∷ []) (line 5 (Looked 1 2 0)) ≡ true
  -- looks are no reports
  looked_at_end_is_reported : lawful (child_ends ++ line 4 (Looked 1 2 0) ∷ line 5 (Looked 1 2 0) ∷ line 6 (Reported 1 wait.Waitid 2 0) ∷ []) ≡ true
  broken_end_reported_to_a_grandparent : breaks grandchild_ends (line 6 (Reported 1 wait.Waitpid 3 0)) ≡ true
  broken_end_looked_at_by_a_grandparent : breaks grandchild_ends (line 6 (Looked 1 3 0)) ≡ true
  adopted_child_is_reported : lawful (grandchild_ends ++ line 6 (Ended 2 0) ∷ line 7 (Reported 1 wait.Waitpid 3 0) ∷ []) ≡ true
  broken_stop_reported_twice : breaks stop_is_reported (line 5 (Reported 1 wait.Waitpid 2 4991)) ≡ true
  broken_reported_stop_is_looked_at : breaks stop_is_reported (line 5 (Looked 1 2 4991)) ≡ true
  broken_continue_reported_twice : breaks (stop_is_reported ++ line 5 (Reported 1 wait.Waitpid 2 65535) ∷ []) (line 6 (Reported 1 wait.Waitpid 2 65535)) ≡ true
  -- reports of a stop or a continue
  broken_stop_that_was_none : breaks (line 1 (Called 1 Fork (pos 2)) ∷ []) (line 2 (Reported 1 wait.Waitpid 2 4991)) ≡ true
  broken_stop_with_an_earlier_signal : breaks (line 1 (Called 1 Fork (pos 2)) ∷ line 2 (Stopped 2 19) ∷ line 3 (Stopped 2 20) ∷ []) (line 4 (Reported 1 wait.Waitpid 2 4991)) ≡ true
  broken_stop_told_to_a_grandparent : breaks (line 1 (Called 1 Fork (pos 2)) ∷ line 2 (Called 2 Fork (pos 3)) ∷ line 3 (Stopped 3 19) ∷ []) (line 4 (Looked 1 3 4991)) ≡ true
  broken_stop_told_after_the_end : breaks (line 1 (Called 1 Fork (pos 2)) ∷ line 2 (Stopped 2 19) ∷ line 3 (Ended 2 9) ∷ []) (line 4 (Reported 1 wait.Waitpid 2 4991)) ≡ true
  broken_continue_of_nobody_stopped : breaks (line 1 (Called 1 Fork (pos 2)) ∷ []) (line 2 (Reported 1 wait.Waitpid 2 65535)) ≡ true
  broken_word_that_is_no_status : breaks (line 1 (Called 1 Fork (pos 2)) ∷ line 2 (Ended 2 11) ∷ []) (line 3 (Reported 1 wait.Waitpid 2 139)) ≡ true
  broken_birth_of_process_1 : breaks ([]) (line 1 (Called 1 Fork (pos 1))) ≡ true
  broken_line_after_its_end : breaks child_ends (line 4 (Noted 2 (pos 7))) ≡ true
  broken_line_before_its_birth : breaks (line 1 (Noted 1 (pos 7)) ∷ []) (line 2 (Noted 2 (pos 7))) ≡ true
  broken_birth_of_the_living : breaks (line 1 (Called 1 Fork (pos 2)) ∷ []) (line 2 (Called 1 Fork (pos 2))) ≡ true
  broken_halt_without_an_end : breaks (line 1 (Noted 1 (pos 7)) ∷ []) (line 1 Halted) ≡ true
  broken_line_after_the_end_of_process_1 : breaks (line 1 (Called 1 Fork (pos 2)) ∷ line 2 (Ended 1 0) ∷ []) (line 3 (Noted 2 (pos 7))) ≡ true
  broken_line_after_a_halt : breaks (line 1 (Ended 1 0) ∷ line 1 Halted ∷ []) (line 2 Halted) ≡ true
  broken_number_that_falls : breaks (line 2 (Noted 1 (pos 7)) ∷ []) (line 1 (Noted 1 (pos 8))) ≡ true
  -- ---- child subreapers
  subreaper_gets_the_children : lawful (under (line 2 (Marked 2 true) ∷ []) ++ line 7 (Reported 2 wait.Waitpid 4 0) ∷ []) ≡ true
  broken_report_past_a_subreaper : breaks (under (line 2 (Marked 2 true) ∷ [])) (line 7 (Reported 1 wait.Waitpid 4 0)) ≡ true
  -- of its lines the last counts
  broken_report_to_one_whose_mark_is_cleared : breaks (under (line 2 (Marked 2 true) ∷ line 2 (Marked 2 false) ∷ [])) (line 7 (Reported 2 wait.Waitpid 4 0)) ≡ true
  -- those of an earlier life don't
  broken_report_to_one_that_was_marked_in_an_earlier_life : breaks (line 1 (Called 1 Fork (pos 2)) ∷ line 1 (Marked 2 true) ∷ line 1 (Ended 2 0) ∷ line 1 (Reported 1 wait.Waitpid 2 0) ∷ under []) (line 7 (Reported 2 wait.Waitpid 4 0)) ≡ true
  -- and no child has the mark of its parent
  broken_report_to_a_child_of_a_subreaper :
      breaks (line 1 (Marked 1 true) ∷ line 1 (Called 1 Fork (pos 2)) ∷ line 2 (Marked 2 true) ∷ line 3 (Called 2 Fork (pos 3)) ∷ line 4 (Called 3 Fork (pos 4)) ∷ line 5 (Called 4 Fork (pos 5)) ∷ line 6 (Ended 5 0) ∷ line 7 (Ended 4 0) ∷ [])
      (line 8 (Reported 3 wait.Waitpid 5 0)) ≡ true

broken_laws : BrokenLaws
unfolding newest_life is_living parents_from nearest_marked
broken_laws = search
