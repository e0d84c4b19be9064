use Rattle.std.proofs.Common.{◌≡◌, ◌*◌, ◌≤◌, map, take}
use Rattle.std.specs.List.{filter_map}
use Rattle.sc_theory.specs.Chains.{positions}
use Rattle.sc_chain.specs.Faults.{AreGenerators}
use Rattle.sc_words.specs.Spelling.{letter_of}
use Rattle.sc_assembly_tests.proofs.gluing.words_of.Given as goal

abbrev pub invariant-loop-text : goal.invariant-loop-text
invariant-loop-text g l = record {
  words : l.words.items ≡ map (λ text. (1, filter_map letter_of text.now)) (take l.text-index l.texts);
  generators : AreGenerators l.words.items;
  few : positions l.words.items ≤ 100 * l.text-index;
}
