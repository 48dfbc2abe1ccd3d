use Rattle.std.proofs.Common.{[], ◌++◌, ◌∙◌, ap, subst}
use Rattle.std.specs.Io.KnownBytes.{Appends}
use Rattle.std.proofs.KnownBytes.{Appends-nil, Appends-trans}
use Rattle.std.specs.Slice.Iter.{chunks_exact_rest, chunks_exact_size}
use Rattle.cutting.specs.Printed.{part_printed}
use Rattle.cutting.proofs.PartsLeft.{left_start, left_end, place_inside, left_more}
use Rattle.cutting.proofs.print_parts.Goals as goal

pub loop-place-init : goal.loop-place-init
loop-place-init g c =
    let source = c.take-place-items.ensures.source in
    let rest = ap chunks_exact_rest source ∙ c.chunks_exact.ensures.rest in
    let size = ap chunks_exact_size source ∙ c.chunks_exact.ensures.size in
    let many = c.take-place-items.ensures.count ∙ c.requires.count_value in
    ([], Appends-nil _, rw c.into_iter-place-iterator.ensures.into_iter_gives (left_start _ _ c.take-place-items.result rest size many c.requires.places_value))

pub print_part-requires : goal.print_part-requires
print_part-requires g c = place_inside _ c.loop-place.place-iterator c.next.new.self _ c.loop-place.invariant.2 c.in-Some.place c.in-Some.ensures.steps c.requires.script_len_bound _ c.part_at.ensures

pub loop-place-preserved : goal.loop-place-preserved
loop-place-preserved g c =
    let before = c.loop-place.invariant in (
      before.0 ++ part_printed c.args.script.now c.part_at.result,
      Appends-trans _ _ _ _ _ before.1 c.in_ok-print_part.ensures,
      left_more _ c.loop-place.place-iterator c.next.new.self before.0 before.2 c.in-Some.place c.in-Some.ensures.steps c.requires.script_len_bound _ c.part_at.ensures,
    )

pub returns : goal.returns
returns g c =
    let before = c.loop-place.invariant in
    let whole = left_end _ c.loop-place.place-iterator c.next.new.self _ before.2 c.in-None.ensures.steps in
    subst (Appends (g.W.Write.contents c.args.output.now) (g.W.Write.contents c.loop-place.output)) whole before.1
