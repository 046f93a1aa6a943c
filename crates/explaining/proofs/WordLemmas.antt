-- Proofs about the arguments of `explain`.
use Rattle.std.proofs.Common.{◌≡◌, true, List, Option, Bor, codes, option_map, refl, sym}
use Rattle.clap.specs.Words.{Row, Text, first_of, is_simple_and_free}
use Rattle.explaining.specs.Words.{asked_by_names, asked_in, command_line, said}
use Rattle.explaining.specs.declared.words.Asked.{Asked}

pub is_simple : is_simple_and_free command_line ≡ true
is_simple = refl

pub asks : (rows : List Row) (trace world events : Option (Bor Text)) (asked : Option Asked) → option_map (λ t. t.now) trace ≡ first_of (codes "trace") rows
    → option_map (λ w. w.now) world ≡ first_of (codes "world") rows → option_map (λ e. e.now) events ≡ first_of (codes "events") rows
    → option_map said asked ≡ asked_by_names (option_map (λ t. t.now) trace) (option_map (λ w. w.now) world) (option_map (λ e. e.now) events) → asked_in rows ≡ option_map said asked
asks rows trace world events asked of_trace of_world of_events is = rw (sym of_trace, sym of_world, sym of_events) (sym is)
