use Rattle.std.proofs.Common.{◌≡◌, Ok, subst, sym}
use Rattle.std.proofs.lemmas.Result.{err_from_is_err_and}
use Rattle.sc_theory.specs.Chains.{Chain}
use Rattle.sc_fan.specs.Fans.{chain_due}
use Rattle.sc_fan.specs.Reading.{taken}
use Rattle.sc_fan.proofs.ReaderLaws.{count_fails, words_fail, chain_taken, chain_for, small_chain}
use Rattle.sc_fan.proofs.chains.read_chain.Goals as goal

pub returns-in_err-count : goal.returns-in_err-count
returns-in_err-count c =
    let p = err_from_is_err_and c.from_residual.result c.from_residual.ensures.1 in
    rw (p.1, p.2) (count_fails c.args.name.now c.args.words c.args.letters c.args.lines.now c.in_err-count.field-0.0 c.in_err-count.ensures)

pub returns-in_err-words : goal.returns-in_err-words
returns-in_err-words c =
    let p = err_from_is_err_and c.from_residual-in_err-words.result c.from_residual-in_err-words.ensures.1 in
    rw (p.1, p.2) (words_fail c.args.name.now c.args.words c.args.letters c.args.lines.now c.in_ok-count.count c.count.new.self c.in_ok-count.ensures c.in_err-words.field-0.0 c.in_err-words.ensures)

pub chain_of_words-requires : goal.chain_of_words-requires
chain_of_words-requires c =
    let told = chain_taken c.args.name.now c.args.words c.args.letters c.args.lines.now c.in_ok-count.count c.count.new.self c.in_ok-count.ensures c.in_ok-words.words.items c.items.new.self c.in_ok-words.ensures in
    small_chain c.args.words c.args.letters c.in_ok-words.words.items c.requires.few_words c.requires.few_letters
    (chain_for c.args.name.now c.args.words c.args.letters c.args.lines.now c.in_ok-words.words.items c.items.new.self c.requires.named c.requires.unended told)

pub returns : goal.returns
returns c =
    let told = chain_taken c.args.name.now c.args.words c.args.letters c.args.lines.now c.in_ok-count.count c.count.new.self c.in_ok-count.ensures c.in_ok-words.words.items c.items.new.self c.in_ok-words.ensures in
    subst (λ (x : Chain). taken (chain_due c.args.name.now c.args.words c.args.letters) c.args.lines.now ≡ Ok (x, c.items.new.self)) (sym c.in_ok-chain.ensures) told
