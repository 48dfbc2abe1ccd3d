use Rattle.std.proofs.Common.{[], ◌++◌, ap, subst}
use Rattle.std.specs.Io.KnownBytes.{Appends}
use Rattle.std.proofs.KnownBytes.{Appends-nil, Appends-trans}
use Rattle.tokenizer.proofs.LevelLaws.{level_fits, level_low_past, level_low_start}
use Rattle.tokenizer.proofs.Walks.{begun, taken, none_left}
use Rattle.token_lines.specs.Printed.{token_line, lines_from}
use Rattle.token_lines.proofs.Lines.{lines_more, lines_end}
use Rattle.token_lines.proofs.print_tokens.Goals as goal

pub loop-token-init : goal.loop-token-init
loop-token-init g c =
    let start = begun c.args.settings c.args.statement.now _ _ c.into_iter-token-iterator.ensures.into_iter_gives c.new-token-items.ensures in
    (level_low_start _ _ _ start, [], Appends-nil _, ap (lines_from 0) start)

pub level_past-level-requires : goal.level_past-level-requires
level_past-level-requires g c = search level_fits

pub loop-token-preserved : goal.loop-token-preserved
loop-token-preserved g c =
    let before = c.loop-token.invariant in (
      search level_low_past,
      before.1 ++ token_line c.loop-token.level c.in-Some.token,
      Appends-trans _ _ _ _ _ before.2 c.in_ok-print_token.ensures,
      lines_more _ _ _ _ before.3 _ _ _ c.level_past-level.ensures (search taken),
    )

pub returns : goal.returns
returns g c =
    let before = c.loop-token.invariant in
    subst (Appends (g.W.Write.contents c.args.output.now) (g.W.Write.contents c.loop-token.output)) (lines_end _ _ _ _ before.3 (search none_left)) before.2
