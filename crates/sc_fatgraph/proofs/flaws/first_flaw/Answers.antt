use Rattle.sc_fatgraph.specs.declared.flaws.FlawKind.TheVariants.{Letter, Next, Label, Count}
use Rattle.sc_fatgraph.proofs.FlawLaws.{flawless_more, flawless_all, first_flaw_is, fatgraph_is, none_before_letter, none_before_label}
use Rattle.sc_fatgraph.proofs.flaws.first_flaw.Goals as goal

pub returns-in-Some-first_next_flaw : goal.returns-in-Some-first_next_flaw
returns-in-Some-first_next_flaw c =
    let h = c.args.chain.now in
    let g = c.args.sides.now in
    let before = none_before_letter h c.args.n g c.in_default.ensures c.in_default-first_mate_flaw.ensures in
    first_flaw_is h c.args.n g Next c.in-Some-first_next_flaw.place (flawless_more h c.args.n g Letter before c.in_default-first_letter_flaw.ensures) c.in-Some-first_next_flaw.ensures

pub returns-in-Some-first_label_flaw : goal.returns-in-Some-first_label_flaw
returns-in-Some-first_label_flaw c =
    let h = c.args.chain.now in
    let g = c.args.sides.now in
    let before = none_before_letter h c.args.n g c.in_default.ensures c.in_default-first_mate_flaw.ensures in
    let more = none_before_label h c.args.n g before c.in_default-first_letter_flaw.ensures c.in_default-first_next_flaw.ensures in
    first_flaw_is h c.args.n g Label c.in-Some-first_label_flaw.place more c.in-Some-first_label_flaw.ensures

pub returns-in-Some-first_count_flaw : goal.returns-in-Some-first_count_flaw
returns-in-Some-first_count_flaw c =
    let h = c.args.chain.now in
    let g = c.args.sides.now in
    let before = none_before_letter h c.args.n g c.in_default.ensures c.in_default-first_mate_flaw.ensures in
    let more = none_before_label h c.args.n g before c.in_default-first_letter_flaw.ensures c.in_default-first_next_flaw.ensures in
    first_flaw_is h c.args.n g Count c.in-Some-first_count_flaw.word (flawless_more h c.args.n g Label more c.in_default-first_label_flaw.ensures) c.in-Some-first_count_flaw.ensures

pub returns : goal.returns
returns c =
    let h = c.args.chain.now in
    let g = c.args.sides.now in
    let before = none_before_letter h c.args.n g c.in_default.ensures c.in_default-first_mate_flaw.ensures in
    let more = none_before_label h c.args.n g before c.in_default-first_letter_flaw.ensures c.in_default-first_next_flaw.ensures in
    let all = flawless_more h c.args.n g Count (flawless_more h c.args.n g Label more c.in_default-first_label_flaw.ensures) c.in_default-first_count_flaw.ensures in
    fatgraph_is h c.args.n g c.requires.some_copies (flawless_all h c.args.n g all)
