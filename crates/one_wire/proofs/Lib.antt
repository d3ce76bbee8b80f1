mod SeekLaws
mod RowLaws
