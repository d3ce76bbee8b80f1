mod LineLaws
mod ListLaws
