use Rattle.std.proofs.Common.{◌≡◌, ℕ, ◌∙◌, ◌++◌, List, codes, sym, ap, subst}
use Rattle.std.proofs.lemmas.Result.{on_err_weaker, on_ok_weaker}
use Rattle.sc_line.specs.Lines.{ended, text_of}
use Rattle.sc_line.specs.Printing.{AppendsPart}
use Rattle.sc_text.specs.Surfaces.{heading, ending}
use Rattle.sc_line.specs.Lines.{count_line}
use Rattle.sc_text.specs.Printing.{words_lines, sides_lines}
use Rattle.sc_line.proofs.PrintLaws.{on_err, front_part, then_part, then_all}
use Rattle.sc_text.proofs.PieceLaws.{surface_pieces}
use Rattle.sc_text.proofs.printing.print_surface_text.Goals as goal

pub returns-in_err-print_line-clause-err : goal.returns-in_err-print_line-clause-err
returns-in_err-print_line-clause-err c =
    let old = c.args.out.now.items in
    let whole = surface_pieces c.args.entries.now c.args.copies c.args.sides.now in
    let p1 : List ℕ = ended heading in
    let p2 : List ℕ = text_of (words_lines c.args.entries.now) in
    let p3 : List ℕ = ended (count_line (codes "copies") c.args.copies) in
    let p4 : List ℕ = text_of (sides_lines c.args.sides.now) in
    let p5 : List ℕ = ended ending in
    on_err _ (subst (AppendsPart old c.print_line.new.out.items) (sym whole)
    (front_part old c.print_line.new.out.items p1 (p2 ++ (p3 ++ (p4 ++ p5))) c.in_err-print_line.ensures.err))

pub returns-in_err-print_words-clause-err : goal.returns-in_err-print_words-clause-err
returns-in_err-print_words-clause-err c =
    let old = c.args.out.now.items in
    let whole = surface_pieces c.args.entries.now c.args.copies c.args.sides.now in
    let p1 : List ℕ = ended heading in
    let p2 : List ℕ = text_of (words_lines c.args.entries.now) in
    let p3 : List ℕ = ended (count_line (codes "copies") c.args.copies) in
    let p4 : List ℕ = text_of (sides_lines c.args.sides.now) in
    let p5 : List ℕ = ended ending in
    on_err _ (subst (AppendsPart old c.print_words.new.out.items) (sym whole)
    (then_part old c.print_line.new.out.items c.print_words.new.out.items p1 (p2 ++ (p3 ++ (p4 ++ p5))) c.in_ok-print_line.ensures.ok (front_part c.print_line.new.out.items c.print_words.new.out.items p2 (p3 ++ (p4 ++ p5)) c.in_err-print_words.ensures.err)))

pub returns-in_err-print_count_line-clause-err : goal.returns-in_err-print_count_line-clause-err
returns-in_err-print_count_line-clause-err c =
    let old = c.args.out.now.items in
    let whole = surface_pieces c.args.entries.now c.args.copies c.args.sides.now in
    let p1 : List ℕ = ended heading in
    let p2 : List ℕ = text_of (words_lines c.args.entries.now) in
    let p3 : List ℕ = ended (count_line (codes "copies") c.args.copies) in
    let p4 : List ℕ = text_of (sides_lines c.args.sides.now) in
    let p5 : List ℕ = ended ending in
    on_err _ (subst (AppendsPart old c.print_count_line.new.out.items) (sym whole)
    (then_part old c.print_line.new.out.items c.print_count_line.new.out.items p1 (p2 ++ (p3 ++ (p4 ++ p5))) c.in_ok-print_line.ensures.ok (then_part c.print_line.new.out.items c.print_words.new.out.items c.print_count_line.new.out.items p2 (p3 ++ (p4 ++ p5)) c.in_ok-print_words.ensures.ok (front_part c.print_words.new.out.items c.print_count_line.new.out.items p3 (p4 ++ p5) c.in_err-print_count_line.ensures.err))))

pub returns-in_err-print_sides-clause-err : goal.returns-in_err-print_sides-clause-err
returns-in_err-print_sides-clause-err c =
    let old = c.args.out.now.items in
    let whole = surface_pieces c.args.entries.now c.args.copies c.args.sides.now in
    let p1 : List ℕ = ended heading in
    let p2 : List ℕ = text_of (words_lines c.args.entries.now) in
    let p3 : List ℕ = ended (count_line (codes "copies") c.args.copies) in
    let p4 : List ℕ = text_of (sides_lines c.args.sides.now) in
    let p5 : List ℕ = ended ending in
    on_err _ (subst (AppendsPart old c.print_sides.new.out.items) (sym whole)
    (then_part old c.print_line.new.out.items c.print_sides.new.out.items p1 (p2 ++ (p3 ++ (p4 ++ p5))) c.in_ok-print_line.ensures.ok (then_part c.print_line.new.out.items c.print_words.new.out.items c.print_sides.new.out.items p2 (p3 ++ (p4 ++ p5)) c.in_ok-print_words.ensures.ok (then_part c.print_words.new.out.items c.print_count_line.new.out.items c.print_sides.new.out.items p3 (p4 ++ p5) c.in_ok-print_count_line.ensures.ok (front_part c.print_count_line.new.out.items c.print_sides.new.out.items p4 p5 c.in_err-print_sides.ensures.err)))))

pub returns-clause-ok : goal.returns-clause-ok
returns-clause-ok c =
    let old = c.args.out.now.items in
    let whole = surface_pieces c.args.entries.now c.args.copies c.args.sides.now in
    let p1 : List ℕ = ended heading in
    let p2 : List ℕ = text_of (words_lines c.args.entries.now) in
    let p3 : List ℕ = ended (count_line (codes "copies") c.args.copies) in
    let p4 : List ℕ = text_of (sides_lines c.args.sides.now) in
    let p5 : List ℕ = ended ending in
    on_ok_weaker c.print_line-2.result
    (λ (all : c.print_line-2.new.out.items ≡ c.print_sides.new.out.items ++ ended ending).
    (then_all old c.print_line.new.out.items c.print_line-2.new.out.items p1 (p2 ++ (p3 ++ (p4 ++ p5))) c.in_ok-print_line.ensures.ok (then_all c.print_line.new.out.items c.print_words.new.out.items c.print_line-2.new.out.items p2 (p3 ++ (p4 ++ p5)) c.in_ok-print_words.ensures.ok (then_all c.print_words.new.out.items c.print_count_line.new.out.items c.print_line-2.new.out.items p3 (p4 ++ p5) c.in_ok-print_count_line.ensures.ok (then_all c.print_count_line.new.out.items c.print_sides.new.out.items c.print_line-2.new.out.items p4 p5 c.in_ok-print_sides.ensures.ok all)))) ∙ ap (λ (t : List ℕ). old ++ t) (sym whole))
    c.print_line-2.ensures.ok

pub returns-clause-err : goal.returns-clause-err
returns-clause-err c =
    let old = c.args.out.now.items in
    let whole = surface_pieces c.args.entries.now c.args.copies c.args.sides.now in
    let p1 : List ℕ = ended heading in
    let p2 : List ℕ = text_of (words_lines c.args.entries.now) in
    let p3 : List ℕ = ended (count_line (codes "copies") c.args.copies) in
    let p4 : List ℕ = text_of (sides_lines c.args.sides.now) in
    let p5 : List ℕ = ended ending in
    on_err_weaker c.print_line-2.result
    (λ (part : AppendsPart c.print_sides.new.out.items c.print_line-2.new.out.items (ended ending)).
    subst (AppendsPart old c.print_line-2.new.out.items) (sym whole)
    (then_part old c.print_line.new.out.items c.print_line-2.new.out.items p1 (p2 ++ (p3 ++ (p4 ++ p5))) c.in_ok-print_line.ensures.ok (then_part c.print_line.new.out.items c.print_words.new.out.items c.print_line-2.new.out.items p2 (p3 ++ (p4 ++ p5)) c.in_ok-print_words.ensures.ok (then_part c.print_words.new.out.items c.print_count_line.new.out.items c.print_line-2.new.out.items p3 (p4 ++ p5) c.in_ok-print_count_line.ensures.ok (then_part c.print_count_line.new.out.items c.print_sides.new.out.items c.print_line-2.new.out.items p4 p5 c.in_ok-print_sides.ensures.ok part)))))
    c.print_line-2.ensures.err
