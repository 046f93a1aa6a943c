-- Worked texts, computed: worlds, events and faults.
use Rattle.std.specs.Prelude.{◌≡◌, ℕ, List, [], ◌∷◌, ◌++◌, refl, replicate, Result, Ok, Err, Option, Some, None, codes, ℤ, pos, negsuc, map, flat_map, nat_le, ◌&&◌, false}
use Rattle.std.proofs.Common.{arith, inr}
use Rattle.std.proofs.lemmas.Bool.Decides.{nat_tests}
use Rattle.posix.specs.declared.event.Event.TheVariants.{Step, Tick, Key}
use Rattle.posix.specs.declared.instr.Instr.{Instr}
use Rattle.posix.specs.declared.instr.Instr.TheVariants.{Set, Move, Compute, Load, Store, Jump, JumpIf, Note, Sys}
use Rattle.posix.specs.declared.instr.Operator.TheVariants.{Add, Sub, Mul, Div, Rem, And, Or, Xor}
use Rattle.posix.specs.declared.instr.Condition.TheVariants.{Zero, NotZero, Negative}
use Rattle.posix.specs.declared.call.Call.TheVariants.{Exit, Fork, Waitpid, Pause, SchedYield, Getpid, Getuid, Geteuid, Getgid, Getegid, Setuid, Seteuid, Setgid, Setegid, Kill, Sigaction, Sigprocmask, Sigpending, Sigsuspend, Sigreturn}
use Rattle.posix.specs.Common.{Program, World}
use Rattle.text.specs.declared.fault.Reason.{Reason}
use Rattle.text.specs.declared.fault.Reason.TheVariants.{UnknownWord, BadNumber, OutOfRange, NameUnknown, NameTwice, LineTooLong, EndMissing, NoProgram}
use Rattle.text.specs.declared.fault.TextFault.{TextFault}
use Rattle.text.specs.declared.sketch.Sketch.TheVariants.{Ready}
use Rattle.text.specs.declared.draft.Section.TheVariants.{InProgram}
use Rattle.text.specs.Names.{defined}
use Rattle.text.specs.Instructions.{operation_named, two_registers, target, operands}
use Rattle.text.specs.Outlines.{completed, program_of}
use Rattle.text.specs.WorldTexts.{Draft, empty_outline, empty_draft, world_line, world_text, world_of, header, setting, program_line, label_line, instruction_line, inner_line, pidmax_line, consoles_line, outer_line, line_at}
use Rattle.text.specs.Numbers.{ranged}
use Rattle.text.specs.EventTexts.{event_text, counted, keys, HasRead}

-- unfolds every definition of a text
unfoldable everything : Unit {0}
unfolding defined operation_named two_registers target operands completed program_of world_text world_of header setting program_line label_line instruction_line inner_line pidmax_line consoles_line outer_line line_at event_text counted keys
everything = tt

abbrev program : Option ℕ → Option ℕ → List Instr → Program
program setuid setgid code = record { setuid = setuid; setgid = setgid; instructions = code }

abbrev worlds : ℕ → ℕ → List Program → Result World TextFault
worlds pidmax consoles programs = Ok (record { pidmax = pidmax; consoles = consoles; programs = programs })

abbrev world : ℕ → ℕ → List Instr → Result World TextFault
world pidmax consoles code = worlds pidmax consoles (program None None code ∷ [])

abbrev refused : {A : Type 0} → ℕ → Reason → Result A TextFault
refused k why = Err (record { line = k; reason = why })

-- a header of two lines
abbrev header_text : List ℕ
header_text = codes "pidmax 2\nconsoles 0\n"

-- ---- worlds

row_note_and_exit : world_text (codes "pidmax 40\nconsoles 1\nprogram init\nset r1, 7\nnote r1\nsys exit\nend\n") ≡ world 40 1 (Set 1 (pos 7) ∷ Note 1 ∷ Sys Exit ∷ [])
unfolding everything
row_note_and_exit = refl

-- comments, blank lines, every separator, the ends of i64, and no line feed at the end
row_separators : world_text (codes "# a world\n\npidmax\t2 # the least\r\nconsoles,8\n\nprogram a_0\nset,r0 -9223372036854775808\nset r7\t9223372036854775807\nend") ≡
    world 2 8 (Set 0 (negsuc 9223372036854775807) ∷ Set 7 (pos 9223372036854775807) ∷ [])
unfolding everything
row_separators = refl

row_every_instruction : world_text (codes "pidmax 2\nconsoles 0\nprogram a\nl: # a label\nset r0, @l\nset r1, $a\nmov r2, r3\nadd r0, r1\nsub r0, r1\nmul r0, r1\ndiv r0, r1\nrem r0, r1\nand r0, r1\nor r0, r1\nxor r0, r1\nld r4, r5\nst r6, r7\njmp l\njz r1, l\njnz r2, m\njlt r3, m\nm:\nnote r7\nsys sched_yield\nend\n") ≡
    world 2 0 (Set 0 (pos 16) ∷ Set 1 (pos 0) ∷ Move 2 3 ∷ Compute Add 0 1 ∷ Compute Sub 0 1 ∷ Compute Mul 0 1 ∷ Compute Div 0 1 ∷ Compute Rem 0 1
    ∷ Compute And 0 1 ∷ Compute Or 0 1 ∷ Compute Xor 0 1 ∷ Load 4 5 ∷ Store 6 7 ∷ Jump 16 ∷ JumpIf Zero 1 16 ∷ JumpIf NotZero 2 33 ∷ JumpIf Negative 3 33
    ∷ Note 7 ∷ Sys SchedYield ∷ [])
unfolding everything
row_every_instruction = refl

row_division : world_text (codes "pidmax 40\nconsoles 1\nprogram init\nset r1, -7\nset r2, 2\ndiv r1, r2\nnote r1\nset r1, -7\nrem r1, r2\nnote r1\nsys getpid\nnote r0\nset r2, 0\ndiv r1, r2\nend\n") ≡
    world 40 1 (Set 1 (negsuc 6) ∷ Set 2 (pos 2) ∷ Compute Div 1 2 ∷ Note 1 ∷ Set 1 (negsuc 6) ∷ Compute Rem 1 2 ∷ Note 1 ∷ Sys Getpid ∷ Note 0 ∷ Set 2 (pos 0)
    ∷ Compute Div 1 2 ∷ [])
unfolding everything
row_division = refl

row_numbers_wrap_and_are_reused : world_text (codes "pidmax 4\nconsoles 1\nprogram init\nsys fork\njz r0, wait\nsys fork\njz r0, die\nsys fork\njz r0, wait\nset r1, 3\nset r2, 0\nsys waitpid\nsys fork\njz r0, wait\nsys fork\nwait:\nsys pause\ndie:\nsys exit\nend\n") ≡
    world 4 1 (Sys Fork ∷ JumpIf Zero 0 28 ∷ Sys Fork ∷ JumpIf Zero 0 29 ∷ Sys Fork ∷ JumpIf Zero 0 28 ∷ Set 1 (pos 3) ∷ Set 2 (pos 0) ∷ Sys Waitpid ∷ Sys Fork
    ∷ JumpIf Zero 0 28 ∷ Sys Fork ∷ Sys Pause ∷ Sys Exit ∷ [])
unfolding everything
row_numbers_wrap_and_are_reused = refl

row_turns : world_text (codes "pidmax 40\nconsoles 1\nprogram init\nsys fork\nloop:\nnote r0\njmp loop\nend\n") ≡ world 40 1 (Sys Fork ∷ Note 0 ∷ Jump 17 ∷ [])
unfolding everything
row_turns = refl

row_fork_bomb : world_text (codes "pidmax 8\nconsoles 1\nprogram init\nagain:\nsys fork\njmp again\nend\n") ≡ world 8 1 (Sys Fork ∷ Jump 16 ∷ [])
unfolding everything
row_fork_bomb = refl

row_ids_and_signals : world_text (header_text ++ codes "program a\nsys getuid\nsys geteuid\nsys getgid\nsys getegid\nsys setuid\nsys seteuid\nsys setgid\nsys setegid\nsys kill\nsys sigaction\nsys sigprocmask\nsys sigpending\nsys sigsuspend\nsys sigreturn\nend\n") ≡
    world 2 0 (Sys Getuid ∷ Sys Geteuid ∷ Sys Getgid ∷ Sys Getegid ∷ Sys Setuid ∷ Sys Seteuid ∷ Sys Setgid ∷ Sys Setegid ∷ Sys Kill ∷ Sys Sigaction ∷ Sys Sigprocmask
    ∷ Sys Sigpending ∷ Sys Sigsuspend ∷ Sys Sigreturn ∷ [])
unfolding everything
row_ids_and_signals = refl

row_restarted_wait : world_text (codes "pidmax 40\nconsoles 1\nprogram init\nset r4, 268435456\nset r1, 10\nset r2, @h\nsys sigaction\nsys fork\njz r0, kid\nset r1, -1\nsys waitpid\nsys pause\nkid:\nset r1, 1\nset r2, 10\nsys kill\nsys pause\nh:\nsys sigreturn\nend\n") ≡
    world 40 1 (Set 4 (pos 268435456) ∷ Set 1 (pos 10) ∷ Set 2 (pos 29) ∷ Sys Sigaction ∷ Sys Fork ∷ JumpIf Zero 0 25 ∷ Set 1 (negsuc 0) ∷ Sys Waitpid ∷ Sys Pause ∷ Set 1 (pos 1)
    ∷ Set 2 (pos 10) ∷ Sys Kill ∷ Sys Pause ∷ Sys Sigreturn ∷ [])
unfolding everything
row_restarted_wait = refl

-- names of programs are used before they are defined; labels belong to their program
row_ids_and_later_programs : world_text (codes "pidmax 2\nconsoles 0\nprogram a setuid 0 setgid 2147483647\nset r1, $c\nend\nprogram b setgid 7\nx:\nend\nprogram c setuid 1\nset r1, $a\nx:\njmp x\nend\n") ≡
    worlds 2 0 (program (Some 0) (Some 2147483647) (Set 1 (pos 2) ∷ []) ∷ program None (Some 7) [] ∷ program (Some 1) None (Set 1 (pos 0) ∷ Jump 17 ∷ []) ∷ [])
unfolding everything
row_ids_and_later_programs = refl

-- every name may be a label
row_words_as_labels : world_text (codes "pidmax 2\nconsoles 0\nprogram set\nend:\nset: # a label, too\njmp end\njmp set\nend\n") ≡ world 2 0 (Jump 16 ∷ Jump 16 ∷ [])
unfolding everything
row_words_as_labels = refl

-- ---- faults

row_unknown_label : world_text (codes "pidmax 40\nconsoles 1\nprogram init\njmp away\nend\n") ≡ refused 4 NameUnknown
unfolding everything
row_unknown_label = refl

-- an unknown name is reported before the missing end
row_label_unknown : world_text (codes "pidmax 40\nconsoles 1\nprogram init\njmp away\n") ≡ refused 4 NameUnknown
unfolding everything
row_label_unknown = refl

row_empty_world : world_text ([]) ≡ refused 1 EndMissing
unfolding everything
row_empty_world = refl

row_header_cut_short : world_text (codes "pidmax 40\n") ≡ refused 2 EndMissing
unfolding everything
row_header_cut_short = refl

row_no_program : world_text (codes "pidmax 40\nconsoles 1\n") ≡ refused 3 NoProgram
unfolding everything
row_no_program = refl

row_end_missing : world_text (codes "pidmax 40\nconsoles 1\nprogram init\nsys exit\n") ≡ refused 5 EndMissing
unfolding everything
row_end_missing = refl

row_pidmax_too_small : world_text (codes "pidmax 1\nconsoles 1\n") ≡ refused 1 OutOfRange
unfolding everything
row_pidmax_too_small = refl

row_pidmax_too_large : world_text (codes "pidmax 4194305\nconsoles 1\nprogram init\nsys exit\nend\n") ≡ refused 1 OutOfRange
unfolding everything
row_pidmax_too_large = refl

row_too_many_consoles : world_text (codes "pidmax 40\nconsoles 65\nprogram init\nsys exit\nend\n") ≡ refused 2 OutOfRange
unfolding everything
row_too_many_consoles = refl

-- the words of a line are checked from left to right
row_left_to_right : world_text (codes "pidmax 1 x\n") ≡ refused 1 OutOfRange
unfolding everything
row_left_to_right = refl

row_missing_number : world_text (codes "pidmax\n") ≡ refused 1 UnknownWord
unfolding everything
row_missing_number = refl

row_bad_number : world_text (codes "pidmax +2\n") ≡ refused 1 BadNumber
unfolding everything
row_bad_number = refl

row_malformed_name : world_text (header_text ++ codes "program 9a\nend\n") ≡ refused 3 UnknownWord
unfolding everything
row_malformed_name = refl

row_name_of_17 : world_text (header_text ++ codes "program abcdefghijklmnop\nend\nprogram abcdefghijklmnopq\nend\n") ≡ refused 5 UnknownWord
unfolding everything
row_name_of_17 = refl

row_value_too_large : world_text (header_text ++ codes "program a\nset r1, 9223372036854775808\nend\n") ≡ refused 4 OutOfRange
unfolding everything
row_value_too_large = refl

row_malformed_reference : world_text (header_text ++ codes "program a\nset r1, @9\nend\n") ≡ refused 4 UnknownWord
unfolding everything
row_malformed_reference = refl

row_no_value : world_text (header_text ++ codes "program a\nset r1, x\nend\n") ≡ refused 4 BadNumber
unfolding everything
row_no_value = refl

row_unknown_instruction : world_text (header_text ++ codes "program a\nfly away\nend\n") ≡ refused 4 UnknownWord
unfolding everything
row_unknown_instruction = refl

row_unknown_call : world_text (header_text ++ codes "program a\nsys fly\nend\n") ≡ refused 4 UnknownWord
unfolding everything
row_unknown_call = refl

row_label_not_alone : world_text (header_text ++ codes "program a\na: jmp a\nend\n") ≡ refused 4 UnknownWord
unfolding everything
row_label_not_alone = refl

row_label_apart : world_text (header_text ++ codes "program a\na :\nend\n") ≡ refused 4 UnknownWord
unfolding everything
row_label_apart = refl

-- the name is reported before the extra word
row_label_twice : world_text (header_text ++ codes "program a\na:\na: jmp a\nend\n") ≡ refused 5 NameTwice
unfolding everything
row_label_twice = refl

row_program_twice : world_text (header_text ++ codes "program a\nend\nprogram a setuid x\nend\n") ≡ refused 5 NameTwice
unfolding everything
row_program_twice = refl

row_ids_in_another_order : world_text (header_text ++ codes "program a setgid 1 setuid 1\nend\n") ≡ refused 3 UnknownWord
unfolding everything
row_ids_in_another_order = refl

row_id_too_large : world_text (header_text ++ codes "program a setuid 2147483648\nend\n") ≡ refused 3 OutOfRange
unfolding everything
row_id_too_large = refl

row_program_within_a_program : world_text (header_text ++ codes "program a\nprogram b\nend\n") ≡ refused 4 UnknownWord
unfolding everything
row_program_within_a_program = refl

row_label_between_programs : world_text (header_text ++ codes "program a\nend\na:\n") ≡ refused 5 UnknownWord
unfolding everything
row_label_between_programs = refl

row_program_unknown : world_text (header_text ++ codes "program a\nset r1, $b\nend\n") ≡ refused 4 NameUnknown
unfolding everything
row_program_unknown = refl

row_label_of_another_program : world_text (header_text ++ codes "program a\njmp x\nend\nprogram b\nx:\nend\n") ≡ refused 4 NameUnknown
unfolding everything
row_label_of_another_program = refl

-- A line is rejected. In the lines before it, the names that these lines define are known.

row_use_before_a_fault : world_text (header_text ++ codes "program a\njmp x\njmp y\nx:\nfly\ny:\nend\n") ≡ refused 5 NameUnknown
unfolding everything
row_use_before_a_fault = refl

row_use_after_a_fault : world_text (header_text ++ codes "program a\njmp x\nx:\nfly\njmp y\nend\n") ≡ refused 6 UnknownWord
unfolding everything
row_use_after_a_fault = refl

row_program_defined_after_a_fault : world_text (header_text ++ codes "program a\nset r1, $b\nend\nfly\nprogram b\nend\n") ≡ refused 4 NameUnknown
unfolding everything
row_program_defined_after_a_fault = refl

row_label_that_ends_a_text : world_text (header_text ++ codes "program a\njmp x\nx:\n") ≡ refused 6 EndMissing
unfolding everything
row_label_that_ends_a_text = refl

-- ---- limits

-- programs with different names
abbrev some_programs : List ℕ → List ℕ
some_programs [] = []
some_programs (b ∷ bs) = codes "program p" ++ b ∷ codes "\nend\n" ++ some_programs bs

row_32_programs : world_text (header_text ++ some_programs (codes "abcdefghijklmnopqrstuvwxyz012345")) ≡ worlds 2 0 (replicate 32 (program None None []))
unfolding everything
row_32_programs = refl

-- the 33rd program is not checked
row_33_programs : world_text (header_text ++ some_programs (codes "abcdefghijklmnopqrstuvwxyz012345") ++ codes "program pa\n") ≡ refused 67 OutOfRange
unfolding everything
row_33_programs = refl

row_33_programs_unknown : world_text (header_text ++ some_programs (codes "abcdefghijklmnopqrstuvwxyz012345") ++ codes "fly\n") ≡ refused 67 UnknownWord
unfolding everything
row_33_programs_unknown = refl

-- a label may follow 1,000 instructions
row_1000_instructions : world_text (header_text ++ codes "program a\njmp x\n" ++ flat_map (λ (n : ℕ). codes "note r1\n") (replicate 999 0) ++ codes "x:\nend\n")
    ≡ world 2 0 (Jump 1016 ∷ replicate 999 (Note 1))
unfolding everything
row_1000_instructions = refl

-- the draft of a program with n instructions
abbrev with_instructions : ℕ → Draft
with_instructions n = record empty_draft { section = InProgram; opened = record (empty_outline None None) { code = replicate n (record { line = 4; sketch = Ready (Note 1) }) } }

row_1001_instructions : world_line 1005 (with_instructions 1000) (codes "note x") ≡ Err OutOfRange
unfolding everything
row_1001_instructions = refl

row_1001_instructions_unknown : world_line 1005 (with_instructions 1000) (codes "notes r1") ≡ Err UnknownWord
unfolding everything
row_1001_instructions_unknown = refl

-- a line of 200 bytes is accepted
row_200_bytes : world_text (header_text ++ codes "program a #" ++ replicate 189 35 ++ codes "\nend\n") ≡ world 2 0 []
unfolding everything
row_200_bytes = refl

-- a line of 201 bytes is too long, whatever its words are
row_201_bytes : world_text (header_text ++ codes "program 9 #" ++ replicate 190 35 ++ codes "\nend\n") ≡ refused 3 LineTooLong
unfolding everything
row_201_bytes = refl

-- ---- events

row_steps_and_ticks : event_text 1 (codes "step 2\ntick 1 # one\n\nstep 1") ≡ Ok (Step ∷ Step ∷ Tick ∷ Step ∷ [])
unfolding everything
row_steps_and_ticks = refl

row_no_events : event_text 1 [] ≡ Ok []
unfolding everything
row_no_events = refl

row_zero_steps : event_text 1 (codes "step 1\nstep 0\n") ≡ refused 2 OutOfRange
unfolding everything
row_zero_steps = refl

row_too_many_steps : event_text 1 (codes "step 1000001\n") ≡ refused 1 OutOfRange
unfolding everything
row_too_many_steps = refl

row_word_too_many : event_text 1 (codes "step 1 2\n") ≡ refused 1 UnknownWord
unfolding everything
row_word_too_many = refl

-- ---- keys

-- `hi` and a line feed, in either case of digits, and the largest byte
row_keys : event_text 2 (codes "key 1 68,69\t0a # hi\nstep 1\nkey 2 fF") ≡ Ok (Key 1 104 ∷ Key 1 105 ∷ Key 1 10 ∷ Step ∷ Key 2 255 ∷ [])
unfolding everything
row_keys = refl

row_every_digit : event_text 1 (codes "key 1 00 12 34 56 78 9A BC DE Fa bc de ff\n")
    ≡ Ok (map (Key 1) (0 ∷ 18 ∷ 52 ∷ 86 ∷ 120 ∷ 154 ∷ 188 ∷ 222 ∷ 250 ∷ 188 ∷ 222 ∷ 255 ∷ []))
unfolding everything
row_every_digit = refl

-- a number may have leading zeros
row_console_with_zeros : event_text 8 (codes "key 008 41\n") ≡ Ok (Key 8 65 ∷ [])
unfolding everything
row_console_with_zeros = refl

-- the most bytes that a line has room for
row_65_bytes : event_text 1 (codes "key 1" ++ flat_map (λ (n : ℕ). codes " 61") (replicate 65 0)) ≡ Ok (replicate 65 (Key 1 97))
unfolding everything
row_65_bytes = refl

row_66_bytes : event_text 1 (codes "key 1" ++ flat_map (λ (n : ℕ). codes " 61") (replicate 66 0)) ≡ refused 1 LineTooLong
unfolding everything
row_66_bytes = refl

-- a missing word
row_key_alone : event_text 1 (codes "key\n") ≡ refused 1 UnknownWord
unfolding everything
row_key_alone = refl

row_key_without_a_byte : event_text 1 (codes "step 1\nkey 1 # 41\n") ≡ refused 2 UnknownWord
unfolding everything
row_key_without_a_byte = refl

-- not a byte
row_one_digit : event_text 1 (codes "key 1 4\n") ≡ refused 1 BadNumber
unfolding everything
row_one_digit = refl

row_no_digit : event_text 1 (codes "key 1 4G\n") ≡ refused 1 BadNumber
unfolding everything
row_no_digit = refl

row_no_first_digit : event_text 1 (codes "key 1 @4\n") ≡ refused 1 BadNumber
unfolding everything
row_no_first_digit = refl

row_three_digits : event_text 1 (codes "key 1 041\n") ≡ refused 1 BadNumber
unfolding everything
row_three_digits = refl

row_negative_byte : event_text 1 (codes "key 1 -4\n") ≡ refused 1 BadNumber
unfolding everything
row_negative_byte = refl

row_prefixed_byte : event_text 1 (codes "key 1 0x41\n") ≡ refused 1 BadNumber
unfolding everything
row_prefixed_byte = refl

row_bad_last_byte : event_text 1 (codes "key 1 41 42 4\n") ≡ refused 1 BadNumber
unfolding everything
row_bad_last_byte = refl

-- not a console
row_console_0 : event_text 1 (codes "key 0 41\n") ≡ refused 1 OutOfRange
unfolding everything
row_console_0 = refl

row_console_2 : event_text 1 (codes "key 2 41\n") ≡ refused 1 OutOfRange
unfolding everything
row_console_2 = refl

row_console_9 : event_text 8 (codes "key 9 41\n") ≡ refused 1 OutOfRange
unfolding everything
row_console_9 = refl

row_negative_console : event_text 8 (codes "key -1 41\n") ≡ refused 1 OutOfRange
unfolding everything
row_negative_console = refl

row_named_console : event_text 1 (codes "key A 41\n") ≡ refused 1 BadNumber
unfolding everything
row_named_console = refl

-- if a world has no consoles, every number is out of range, and any other word is a bad number
no_console : (z : ℤ) → ranged 1 0 (Some z) ≡ Err OutOfRange
no_console (pos n) = let e : (nat_le 1 n && nat_le n 0) ≡ false = grind (arith, nat_tests) in rw e refl
no_console (negsuc n) = refl

row_no_consoles : event_text 0 (codes "key 1 41\n") ≡ refused 1 OutOfRange
unfolding everything
row_no_consoles = refl

row_no_consoles_and_0 : event_text 0 (codes "key 0 41\n") ≡ refused 1 OutOfRange
unfolding everything
row_no_consoles_and_0 = refl

row_no_consoles_and_no_number : event_text 0 (codes "key one 41\n") ≡ refused 1 BadNumber
unfolding everything
row_no_consoles_and_no_number = refl

row_no_consoles_and_no_byte : event_text 0 (codes "key 1\n") ≡ refused 1 OutOfRange
unfolding everything
row_no_consoles_and_no_byte = refl

-- the first faulty word decides
row_console_before_a_byte : event_text 1 (codes "key 2 4G\n") ≡ refused 1 OutOfRange
unfolding everything
row_console_before_a_byte = refl

row_console_before_no_byte : event_text 1 (codes "key 2\n") ≡ refused 1 OutOfRange
unfolding everything
row_console_before_no_byte = refl

-- A text may be cut anywhere, here within a byte: this is what a reader stores before the cut, and after the next
-- piece.

row_before_a_cut : HasRead (codes "step 1\nkey 1 6")
    (record { consoles = 1; reading = record { lines = 1; events = Step ∷ []; fault = None }; partial = codes "key 1 6" })
unfolding everything
row_before_a_cut = (refl, refl)

row_after_a_cut : HasRead (codes "step 1\nkey 1 6" ++ codes "8 69\ntick ")
    (record { consoles = 1; reading = record { lines = 2; events = Step ∷ Key 1 104 ∷ Key 1 105 ∷ []; fault = None }; partial = codes "tick " })
unfolding everything
row_after_a_cut = (refl, refl)

row_bad_byte_after_a_cut : HasRead (codes "step 1\nkey 1 6" ++ codes "x\n")
    (record { consoles = 1; reading = record { lines = 1; events = Step ∷ []; fault = Some (record { line = 2; reason = BadNumber }) }; partial = [] })
unfolding everything
row_bad_byte_after_a_cut = inr refl

row_upper_case_key : event_text 1 (codes "Key 1 41\n") ≡ refused 1 UnknownWord
unfolding everything
row_upper_case_key = refl

-- A byte for which there is no room is out of range, unless it is not a byte. Lines for which there is room for 2
-- events, or none:

row_last_byte : keys 1 2 (codes "1" ∷ codes "41" ∷ codes "42" ∷ []) ≡ Ok (Key 1 65 ∷ Key 1 66 ∷ [])
unfolding everything
row_last_byte = refl

row_byte_too_much : keys 1 2 (codes "1" ∷ codes "41" ∷ codes "42" ∷ codes "43" ∷ []) ≡ Err OutOfRange
unfolding everything
row_byte_too_much = refl

row_byte_too_much_before_a_bad_one : keys 1 2 (codes "1" ∷ codes "41" ∷ codes "42" ∷ codes "43" ∷ codes "4" ∷ []) ≡ Err OutOfRange
unfolding everything
row_byte_too_much_before_a_bad_one = refl

row_bad_byte_too_much : keys 1 2 (codes "1" ∷ codes "41" ∷ codes "42" ∷ codes "4" ∷ []) ≡ Err BadNumber
unfolding everything
row_bad_byte_too_much = refl

row_no_room : keys 1 0 (codes "1" ∷ []) ≡ Err UnknownWord
unfolding everything
row_no_room = refl

-- A line of 200 bytes is accepted, and a line of 201 is too long, even if it is a comment or lacks its line feed.
row_long_enough : event_text 1 (replicate 200 35) ≡ Ok []
unfolding everything
row_long_enough = refl

row_long_line : event_text 1 (replicate 201 35) ≡ refused 1 LineTooLong
unfolding everything
row_long_line = refl

row_long_line_after : event_text 1 (codes "step 1\n" ++ replicate 201 32 ++ codes "\nfly\n") ≡ refused 2 LineTooLong
unfolding everything
row_long_line_after = refl
