-- Each arm is a test that the checker computes over all phrases. Made by tools/phrase_proofs.py.
use Rattle.std.proofs.Common.{rules, ℕ, List, [], ◌∷◌, refl}
use Rattle.characters.specs.Ranges.{within}
use Rattle.characters.specs.Ascii.{is_letter, is_ascii_word}
use Rattle.recognisers.specs.Taking.{count, contains}
use Rattle.reserved.specs.Phrases.{each}
use Rattle.reserved.specs.TopLevel.{creatable, alterable_or_droppable, each_dropped, top_level_phrases}
use Rattle.reserved.specs.NewlineAfter.{newline_after_phrases}
use Rattle.reserved.specs.Newline.{newline_phrases}
use Rattle.reserved.specs.Join.{join_phrases}
use Rattle.reserved.specs.NoIndent.{no_indent_phrases}
use Rattle.reserved.specs.Plain.{plain_two_phrases, plain_one_phrases, plain_a, plain_b, plain_c, plain_d, plain_e, plain_f, plain_g, plain_h, plain_i, plain_k, plain_l, plain_m, plain_n, plain_o, plain_p, plain_q, plain_r, plain_s, plain_t, plain_u, plain_v, plain_w, plain_y}
use Rattle.reserved.specs.Inner.Entries.{grouped, entries, entries_of, entries_long, listed, listed_at}
use Rattle.reserved.proofs.Lengths.{of_letter, of_no_letter}
use Rattle.reserved.proofs.phrases.lengths_of.Goals as goal

pub returns-in-36 : goal.returns-in-36
unfolding count is_ascii_word is_letter within listed entries_of entries_long entries grouped top_level_phrases creatable alterable_or_droppable each each_dropped newline_after_phrases newline_phrases join_phrases no_indent_phrases plain_two_phrases plain_one_phrases plain_a plain_b plain_c plain_d plain_e plain_f plain_g plain_h plain_i plain_k plain_l plain_m plain_n plain_o plain_p plain_q plain_r plain_s plain_t plain_u plain_v plain_w plain_y
returns-in-36 c = of_letter 36 _ c.in-36.is _ refl refl

pub returns-in-65 : goal.returns-in-65
unfolding count is_ascii_word is_letter within listed entries_of entries_long entries grouped top_level_phrases creatable alterable_or_droppable each each_dropped newline_after_phrases newline_phrases join_phrases no_indent_phrases plain_two_phrases plain_one_phrases plain_a plain_b plain_c plain_d plain_e plain_f plain_g plain_h plain_i plain_k plain_l plain_m plain_n plain_o plain_p plain_q plain_r plain_s plain_t plain_u plain_v plain_w plain_y
returns-in-65 c = of_letter 65 _ c.in-65.is _ refl refl

pub returns-in-66 : goal.returns-in-66
unfolding count is_ascii_word is_letter within listed entries_of entries_long entries grouped top_level_phrases creatable alterable_or_droppable each each_dropped newline_after_phrases newline_phrases join_phrases no_indent_phrases plain_two_phrases plain_one_phrases plain_a plain_b plain_c plain_d plain_e plain_f plain_g plain_h plain_i plain_k plain_l plain_m plain_n plain_o plain_p plain_q plain_r plain_s plain_t plain_u plain_v plain_w plain_y
returns-in-66 c = of_letter 66 _ c.in-66.is _ refl refl

pub returns-in-67 : goal.returns-in-67
unfolding count is_ascii_word is_letter within listed entries_of entries_long entries grouped top_level_phrases creatable alterable_or_droppable each each_dropped newline_after_phrases newline_phrases join_phrases no_indent_phrases plain_two_phrases plain_one_phrases plain_a plain_b plain_c plain_d plain_e plain_f plain_g plain_h plain_i plain_k plain_l plain_m plain_n plain_o plain_p plain_q plain_r plain_s plain_t plain_u plain_v plain_w plain_y
returns-in-67 c = of_letter 67 _ c.in-67.is _ refl refl

pub returns-in-68 : goal.returns-in-68
unfolding count is_ascii_word is_letter within listed entries_of entries_long entries grouped top_level_phrases creatable alterable_or_droppable each each_dropped newline_after_phrases newline_phrases join_phrases no_indent_phrases plain_two_phrases plain_one_phrases plain_a plain_b plain_c plain_d plain_e plain_f plain_g plain_h plain_i plain_k plain_l plain_m plain_n plain_o plain_p plain_q plain_r plain_s plain_t plain_u plain_v plain_w plain_y
returns-in-68 c = of_letter 68 _ c.in-68.is _ refl refl

pub returns-in-69 : goal.returns-in-69
unfolding count is_ascii_word is_letter within listed entries_of entries_long entries grouped top_level_phrases creatable alterable_or_droppable each each_dropped newline_after_phrases newline_phrases join_phrases no_indent_phrases plain_two_phrases plain_one_phrases plain_a plain_b plain_c plain_d plain_e plain_f plain_g plain_h plain_i plain_k plain_l plain_m plain_n plain_o plain_p plain_q plain_r plain_s plain_t plain_u plain_v plain_w plain_y
returns-in-69 c = of_letter 69 _ c.in-69.is _ refl refl

pub returns-in-70 : goal.returns-in-70
unfolding count is_ascii_word is_letter within listed entries_of entries_long entries grouped top_level_phrases creatable alterable_or_droppable each each_dropped newline_after_phrases newline_phrases join_phrases no_indent_phrases plain_two_phrases plain_one_phrases plain_a plain_b plain_c plain_d plain_e plain_f plain_g plain_h plain_i plain_k plain_l plain_m plain_n plain_o plain_p plain_q plain_r plain_s plain_t plain_u plain_v plain_w plain_y
returns-in-70 c = of_letter 70 _ c.in-70.is _ refl refl

pub returns-in-71 : goal.returns-in-71
unfolding count is_ascii_word is_letter within listed entries_of entries_long entries grouped top_level_phrases creatable alterable_or_droppable each each_dropped newline_after_phrases newline_phrases join_phrases no_indent_phrases plain_two_phrases plain_one_phrases plain_a plain_b plain_c plain_d plain_e plain_f plain_g plain_h plain_i plain_k plain_l plain_m plain_n plain_o plain_p plain_q plain_r plain_s plain_t plain_u plain_v plain_w plain_y
returns-in-71 c = of_letter 71 _ c.in-71.is _ refl refl

pub returns-in-72 : goal.returns-in-72
unfolding count is_ascii_word is_letter within listed entries_of entries_long entries grouped top_level_phrases creatable alterable_or_droppable each each_dropped newline_after_phrases newline_phrases join_phrases no_indent_phrases plain_two_phrases plain_one_phrases plain_a plain_b plain_c plain_d plain_e plain_f plain_g plain_h plain_i plain_k plain_l plain_m plain_n plain_o plain_p plain_q plain_r plain_s plain_t plain_u plain_v plain_w plain_y
returns-in-72 c = of_letter 72 _ c.in-72.is _ refl refl

pub returns-in-73 : goal.returns-in-73
unfolding count is_ascii_word is_letter within listed entries_of entries_long entries grouped top_level_phrases creatable alterable_or_droppable each each_dropped newline_after_phrases newline_phrases join_phrases no_indent_phrases plain_two_phrases plain_one_phrases plain_a plain_b plain_c plain_d plain_e plain_f plain_g plain_h plain_i plain_k plain_l plain_m plain_n plain_o plain_p plain_q plain_r plain_s plain_t plain_u plain_v plain_w plain_y
returns-in-73 c = of_letter 73 _ c.in-73.is _ refl refl

pub returns-in-74 : goal.returns-in-74
unfolding count is_ascii_word is_letter within listed entries_of entries_long entries grouped top_level_phrases creatable alterable_or_droppable each each_dropped newline_after_phrases newline_phrases join_phrases no_indent_phrases plain_two_phrases plain_one_phrases plain_a plain_b plain_c plain_d plain_e plain_f plain_g plain_h plain_i plain_k plain_l plain_m plain_n plain_o plain_p plain_q plain_r plain_s plain_t plain_u plain_v plain_w plain_y
returns-in-74 c = of_letter 74 _ c.in-74.is _ refl refl

pub returns-in-75 : goal.returns-in-75
unfolding count is_ascii_word is_letter within listed entries_of entries_long entries grouped top_level_phrases creatable alterable_or_droppable each each_dropped newline_after_phrases newline_phrases join_phrases no_indent_phrases plain_two_phrases plain_one_phrases plain_a plain_b plain_c plain_d plain_e plain_f plain_g plain_h plain_i plain_k plain_l plain_m plain_n plain_o plain_p plain_q plain_r plain_s plain_t plain_u plain_v plain_w plain_y
returns-in-75 c = of_letter 75 _ c.in-75.is _ refl refl

pub returns-in-76 : goal.returns-in-76
unfolding count is_ascii_word is_letter within listed entries_of entries_long entries grouped top_level_phrases creatable alterable_or_droppable each each_dropped newline_after_phrases newline_phrases join_phrases no_indent_phrases plain_two_phrases plain_one_phrases plain_a plain_b plain_c plain_d plain_e plain_f plain_g plain_h plain_i plain_k plain_l plain_m plain_n plain_o plain_p plain_q plain_r plain_s plain_t plain_u plain_v plain_w plain_y
returns-in-76 c = of_letter 76 _ c.in-76.is _ refl refl

pub returns-in-77 : goal.returns-in-77
unfolding count is_ascii_word is_letter within listed entries_of entries_long entries grouped top_level_phrases creatable alterable_or_droppable each each_dropped newline_after_phrases newline_phrases join_phrases no_indent_phrases plain_two_phrases plain_one_phrases plain_a plain_b plain_c plain_d plain_e plain_f plain_g plain_h plain_i plain_k plain_l plain_m plain_n plain_o plain_p plain_q plain_r plain_s plain_t plain_u plain_v plain_w plain_y
returns-in-77 c = of_letter 77 _ c.in-77.is _ refl refl

pub returns-in-78 : goal.returns-in-78
unfolding count is_ascii_word is_letter within listed entries_of entries_long entries grouped top_level_phrases creatable alterable_or_droppable each each_dropped newline_after_phrases newline_phrases join_phrases no_indent_phrases plain_two_phrases plain_one_phrases plain_a plain_b plain_c plain_d plain_e plain_f plain_g plain_h plain_i plain_k plain_l plain_m plain_n plain_o plain_p plain_q plain_r plain_s plain_t plain_u plain_v plain_w plain_y
returns-in-78 c = of_letter 78 _ c.in-78.is _ refl refl

pub returns-in-79 : goal.returns-in-79
unfolding count is_ascii_word is_letter within listed entries_of entries_long entries grouped top_level_phrases creatable alterable_or_droppable each each_dropped newline_after_phrases newline_phrases join_phrases no_indent_phrases plain_two_phrases plain_one_phrases plain_a plain_b plain_c plain_d plain_e plain_f plain_g plain_h plain_i plain_k plain_l plain_m plain_n plain_o plain_p plain_q plain_r plain_s plain_t plain_u plain_v plain_w plain_y
returns-in-79 c = of_letter 79 _ c.in-79.is _ refl refl

pub returns-in-80 : goal.returns-in-80
unfolding count is_ascii_word is_letter within listed entries_of entries_long entries grouped top_level_phrases creatable alterable_or_droppable each each_dropped newline_after_phrases newline_phrases join_phrases no_indent_phrases plain_two_phrases plain_one_phrases plain_a plain_b plain_c plain_d plain_e plain_f plain_g plain_h plain_i plain_k plain_l plain_m plain_n plain_o plain_p plain_q plain_r plain_s plain_t plain_u plain_v plain_w plain_y
returns-in-80 c = of_letter 80 _ c.in-80.is _ refl refl

pub returns-in-81 : goal.returns-in-81
unfolding count is_ascii_word is_letter within listed entries_of entries_long entries grouped top_level_phrases creatable alterable_or_droppable each each_dropped newline_after_phrases newline_phrases join_phrases no_indent_phrases plain_two_phrases plain_one_phrases plain_a plain_b plain_c plain_d plain_e plain_f plain_g plain_h plain_i plain_k plain_l plain_m plain_n plain_o plain_p plain_q plain_r plain_s plain_t plain_u plain_v plain_w plain_y
returns-in-81 c = of_letter 81 _ c.in-81.is _ refl refl

pub returns-in-82 : goal.returns-in-82
unfolding count is_ascii_word is_letter within listed entries_of entries_long entries grouped top_level_phrases creatable alterable_or_droppable each each_dropped newline_after_phrases newline_phrases join_phrases no_indent_phrases plain_two_phrases plain_one_phrases plain_a plain_b plain_c plain_d plain_e plain_f plain_g plain_h plain_i plain_k plain_l plain_m plain_n plain_o plain_p plain_q plain_r plain_s plain_t plain_u plain_v plain_w plain_y
returns-in-82 c = of_letter 82 _ c.in-82.is _ refl refl

pub returns-in-83 : goal.returns-in-83
unfolding count is_ascii_word is_letter within listed entries_of entries_long entries grouped top_level_phrases creatable alterable_or_droppable each each_dropped newline_after_phrases newline_phrases join_phrases no_indent_phrases plain_two_phrases plain_one_phrases plain_a plain_b plain_c plain_d plain_e plain_f plain_g plain_h plain_i plain_k plain_l plain_m plain_n plain_o plain_p plain_q plain_r plain_s plain_t plain_u plain_v plain_w plain_y
returns-in-83 c = of_letter 83 _ c.in-83.is _ refl refl

pub returns-in-84 : goal.returns-in-84
unfolding count is_ascii_word is_letter within listed entries_of entries_long entries grouped top_level_phrases creatable alterable_or_droppable each each_dropped newline_after_phrases newline_phrases join_phrases no_indent_phrases plain_two_phrases plain_one_phrases plain_a plain_b plain_c plain_d plain_e plain_f plain_g plain_h plain_i plain_k plain_l plain_m plain_n plain_o plain_p plain_q plain_r plain_s plain_t plain_u plain_v plain_w plain_y
returns-in-84 c = of_letter 84 _ c.in-84.is _ refl refl

pub returns-in-85 : goal.returns-in-85
unfolding count is_ascii_word is_letter within listed entries_of entries_long entries grouped top_level_phrases creatable alterable_or_droppable each each_dropped newline_after_phrases newline_phrases join_phrases no_indent_phrases plain_two_phrases plain_one_phrases plain_a plain_b plain_c plain_d plain_e plain_f plain_g plain_h plain_i plain_k plain_l plain_m plain_n plain_o plain_p plain_q plain_r plain_s plain_t plain_u plain_v plain_w plain_y
returns-in-85 c = of_letter 85 _ c.in-85.is _ refl refl

pub returns-in-86 : goal.returns-in-86
unfolding count is_ascii_word is_letter within listed entries_of entries_long entries grouped top_level_phrases creatable alterable_or_droppable each each_dropped newline_after_phrases newline_phrases join_phrases no_indent_phrases plain_two_phrases plain_one_phrases plain_a plain_b plain_c plain_d plain_e plain_f plain_g plain_h plain_i plain_k plain_l plain_m plain_n plain_o plain_p plain_q plain_r plain_s plain_t plain_u plain_v plain_w plain_y
returns-in-86 c = of_letter 86 _ c.in-86.is _ refl refl

pub returns-in-87 : goal.returns-in-87
unfolding count is_ascii_word is_letter within listed entries_of entries_long entries grouped top_level_phrases creatable alterable_or_droppable each each_dropped newline_after_phrases newline_phrases join_phrases no_indent_phrases plain_two_phrases plain_one_phrases plain_a plain_b plain_c plain_d plain_e plain_f plain_g plain_h plain_i plain_k plain_l plain_m plain_n plain_o plain_p plain_q plain_r plain_s plain_t plain_u plain_v plain_w plain_y
returns-in-87 c = of_letter 87 _ c.in-87.is _ refl refl

pub returns-in-88 : goal.returns-in-88
unfolding count is_ascii_word is_letter within listed entries_of entries_long entries grouped top_level_phrases creatable alterable_or_droppable each each_dropped newline_after_phrases newline_phrases join_phrases no_indent_phrases plain_two_phrases plain_one_phrases plain_a plain_b plain_c plain_d plain_e plain_f plain_g plain_h plain_i plain_k plain_l plain_m plain_n plain_o plain_p plain_q plain_r plain_s plain_t plain_u plain_v plain_w plain_y
returns-in-88 c = of_letter 88 _ c.in-88.is _ refl refl

pub returns-in-89 : goal.returns-in-89
unfolding count is_ascii_word is_letter within listed entries_of entries_long entries grouped top_level_phrases creatable alterable_or_droppable each each_dropped newline_after_phrases newline_phrases join_phrases no_indent_phrases plain_two_phrases plain_one_phrases plain_a plain_b plain_c plain_d plain_e plain_f plain_g plain_h plain_i plain_k plain_l plain_m plain_n plain_o plain_p plain_q plain_r plain_s plain_t plain_u plain_v plain_w plain_y
returns-in-89 c = of_letter 89 _ c.in-89.is _ refl refl

letters : List ℕ
letters = 36 ∷ 65 ∷ 66 ∷ 67 ∷ 68 ∷ 69 ∷ 70 ∷ 71 ∷ 72 ∷ 73 ∷ 74 ∷ 75 ∷ 76 ∷ 77 ∷ 78 ∷ 79 ∷ 80 ∷ 81 ∷ 82 ∷ 83 ∷ 84 ∷ 85 ∷ 86 ∷ 87 ∷ 88 ∷ 89 ∷ []

pub returns-in_default : goal.returns-in_default
unfolding letters contains listed_at entries grouped top_level_phrases creatable alterable_or_droppable each each_dropped newline_after_phrases newline_phrases join_phrases no_indent_phrases plain_two_phrases plain_one_phrases plain_a plain_b plain_c plain_d plain_e plain_f plain_g plain_h plain_i plain_k plain_l plain_m plain_n plain_o plain_p plain_q plain_r plain_s plain_t plain_u plain_v plain_w plain_y
returns-in_default c = of_no_letter letters c.args.letter refl (search rules)
