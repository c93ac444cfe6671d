-- The claims of specs/Claims.antt, each from the law that has it.
-- Assumes nothing.
use mathlib.Core.List.{map}
use mathlib.Core.Path.{sym, ap, ◌∙◌}
use Rattle.j8_lines.specs.Lists.{run, began}
use Rattle.j8_lines.proofs.WholeList.{whole_list}
use Rattle.upload_claims.proofs.Claims.{every_list_of_calls, pieces_do_not_matter, answers_numbered, records_after_finish}
use Rattle.structs.specs.Uploads.{answer_of}
use Rattle.j8.specs.Runs.{ran_call}
use Rattle.j8_claims.specs.Claims.{EveryListOfCCalls, CPiecesDoNotMatter, CRecordsAfterFinish, CStringsReturn, CUnicodeIsUtf8, CLinesReturn, CTablesReturn, CStringsNumbered, CTablesNumbered, CCallsNumbered, CExampleFaults, CFaultsInOrder, CSentencesHaveRoom, CSentencesTellNumbers, CSheetsAreRead, CRowsAreWhole, CRangesInside, CKindsFitTypes, CCellsShowTheirTexts, CSheetsDoneOrRefused, CRoomIsLast, CSheetsHaveRoom}
use Rattle.j8_claims.proofs.Lists.{run_back, answers_back, handed_back}
use Rattle.j8_claims.proofs.Faults.{all_passed_up, in_order}
use Rattle.j8_claims.proofs.Numbers.{string_numbered, table_numbered}
use Rattle.j8_claims.proofs.Unicode.{unicode_read}
use Rattle.j8_claims.proofs.Returned.{string_returned, lines_returned, table_returned}
use Rattle.j8_claims.proofs.Sheets.{sheet_done, sheet_read, done_or_refused, room_last, room_enough, rows_whole, ranges_in, kinds_fit, texts_shown}
use Rattle.j8_claims.proofs.SentencesTold.{sentence_done, sentence_tells}

pub every_list_of_c_calls : EveryListOfCCalls
every_list_of_c_calls cs line out h = (
  run_back (began line out) cs ∙ ap ran_call (whole_list cs line out h),
  answers_back (began line out) cs ∙ ap (map answer_of) (every_list_of_calls cs line out h).each_answer,
)

pub c_pieces_do_not_matter : CPiecesDoNotMatter
c_pieces_do_not_matter cs ds line out h f g e =
    run_back (began line out) cs ∙ ap ran_call (pieces_do_not_matter cs ds line out h f g e) ∙ sym (run_back (began line out) ds)

pub c_records_after_finish : CRecordsAfterFinish
c_records_after_finish cs line out h f =
    rw (run_back (began line out) cs, handed_back (run (began line out) cs)) (records_after_finish cs line out h f)

pub c_strings_return : CStringsReturn
c_strings_return = string_returned

pub c_unicode_is_utf8 : CUnicodeIsUtf8
c_unicode_is_utf8 = unicode_read

pub c_lines_return : CLinesReturn
c_lines_return records text cs line out l b e h = lines_returned records text e h cs line out l b

pub c_tables_return : CTablesReturn
c_tables_return = table_returned

pub c_strings_numbered : CStringsNumbered
c_strings_numbered = string_numbered

pub c_tables_numbered : CTablesNumbered
c_tables_numbered = table_numbered

pub c_calls_numbered : CCallsNumbered
c_calls_numbered cs line out h = rw (run_back (began line out) cs) (answers_numbered cs line out h)

pub c_example_faults : CExampleFaults
c_example_faults = all_passed_up

pub c_faults_in_order : CFaultsInOrder
c_faults_in_order = in_order

pub c_sentences_have_room : CSentencesHaveRoom
c_sentences_have_room = sentence_done

pub c_sentences_tell_numbers : CSentencesTellNumbers
c_sentences_tell_numbers = sentence_tells

pub c_sheets_are_read : CSheetsAreRead
c_sheets_are_read text names types cells store = (sheet_done text names types cells store, sheet_read text names types cells store)

pub c_rows_are_whole : CRowsAreWhole
c_rows_are_whole = rows_whole

pub c_ranges_inside : CRangesInside
c_ranges_inside = ranges_in

pub c_kinds_fit_types : CKindsFitTypes
c_kinds_fit_types = kinds_fit

pub c_cells_show_their_texts : CCellsShowTheirTexts
c_cells_show_their_texts = texts_shown

pub c_sheets_done_or_refused : CSheetsDoneOrRefused
c_sheets_done_or_refused = done_or_refused

pub c_room_is_last : CRoomIsLast
c_room_is_last = room_last

pub c_sheets_have_room : CSheetsHaveRoom
c_sheets_have_room = room_enough
