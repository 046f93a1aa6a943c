-- The sections of docs/ERRORS.md that reports refer to.
use Rattle.std.specs.Prelude.{ℕ, List, codes}
use Rattle.refusing.specs.declared.telling.Section.{Section}
use Rattle.refusing.specs.declared.telling.Section.TheVariants.{Header, Programs, ProgramLines, Events}

abbrev pub section_line : Section → List ℕ
section_line Header = codes "  see docs/ERRORS.md, \"The header of a world\"\n"
section_line Programs = codes "  see docs/ERRORS.md, \"Programs\"\n"
section_line ProgramLines = codes "  see docs/ERRORS.md, \"Program lines\"\n"
section_line Events = codes "  see docs/ERRORS.md, \"Events\"\n"
