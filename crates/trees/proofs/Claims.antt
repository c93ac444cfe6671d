-- The claims of specs/Claims.antt, each from the law that has it.
-- Assumes nothing.
use Rattle.trees.specs.Trees.{render}
use Rattle.trees.specs.Tables.{nodes_in}
use Rattle.trees.specs.Claims.{TablesNest, WrittenTableReadsBack, WrittenTreeReadsBack, FitTablesAreSound, ReadTableIsFit, RestoredIsTheSame, RenderIsInjective, WrittenTableLength, UnicodeStringsAreUtf8}
use Rattle.trees.proofs.Fitting.{tree_sound}
use Rattle.trees.proofs.Rooms.{tree_room}
use Rattle.trees.proofs.UnicodeStrings.{unicode_string}
use Rattle.trees.proofs.WholeTexts.{known_tree, written_known, written_read, front_read, render_one, read_nests, read_fit, text_sound}

pub tables_nest : TablesNest
tables_nest s l tag ns bs e = read_nests s l tag ns bs e

pub written_table_reads_back : WrittenTableReadsBack
written_table_reads_back table text store t a b e h = written_read t (tree_sound text store a b (nodes_in table) t e) h

pub written_tree_reads_back : WrittenTreeReadsBack
written_tree_reads_back t r s h = front_read t r s h

pub fit_tables_are_sound : FitTablesAreSound
fit_tables_are_sound table text store t a b e = tree_sound text store a b (nodes_in table) t e

pub read_table_is_fit : ReadTableIsFit
read_table_is_fit = read_fit

pub restored_is_the_same : RestoredIsTheSame
restored_is_the_same s t b e h =
    let z = text_sound s t b e in (known_tree (render t) t (written_known t z).known, written_read t z h)

pub render_is_injective : RenderIsInjective
render_is_injective t u a b e = render_one t u a b e

pub written_table_length : WrittenTableLength
written_table_length r text store t e = tree_room text store r t e

pub unicode_strings_are_utf8 : UnicodeStringsAreUtf8
unicode_strings_are_utf8 = unicode_string
