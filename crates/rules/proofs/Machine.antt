-- What a closed computation of the rules unfolds.
use Rattle.geometry.specs.Address.{are_elements, elements_of, fields_of, least_from, offset_bits, offset_of, word_of}
use Rattle.geometry.specs.Answers.{create_answer, parse_answer}
use Rattle.geometry.specs.Questions.{answered, first_no}
use Rattle.geometry.specs.Shape.{adus_per_block, drive_planes, each_in_range, planes_per_block, store_length, stretch_start, whole_blocks, within_limits}
use Rattle.model.specs.Blocks.{closed, counted_down, written_on}
use Rattle.rules.specs.Blocks.{chosen_to, matches, new_blocks, opened_for, user_address, written_by_placement, written_into, written_onwards}
use Rattle.rules.specs.Counting.{all_to, numbers_to, row_to, sum_to}
use Rattle.rules.specs.Domains.{changed_domain, coverage, created_domain, deleted_domain}
use Rattle.rules.specs.Drive.{block_with_to, by_serial_to, closed_count, entries_of, held_count, open_block_to, open_count, overwritten}
use Rattle.rules.specs.Effects.{effect, questions, step, words_filled}
use Rattle.rules.specs.Questions.{user_addresses_fit}
use Rattle.rules.specs.Recorder.{oldest_to, after_freeing}
use Rattle.rules.specs.Runs.{answers, run}
use Rattle.rules.specs.Soundness.{block_sound, domain_sound, sound}
use Rattle.rules.specs.Start.{started}

-- To unfold this is to unfold every definition that a run computes with.
unfoldable pub machine : Unit {0}
unfolding are_elements elements_of fields_of least_from offset_bits offset_of word_of create_answer parse_answer answered first_no adus_per_block drive_planes each_in_range planes_per_block store_length stretch_start whole_blocks within_limits closed counted_down written_on chosen_to matches new_blocks opened_for user_address written_by_placement written_into written_onwards all_to numbers_to row_to sum_to changed_domain coverage created_domain deleted_domain block_with_to closed_count entries_of held_count open_block_to open_count overwritten by_serial_to oldest_to after_freeing step effect words_filled answers run questions user_addresses_fit block_sound domain_sound sound started
machine = tt
