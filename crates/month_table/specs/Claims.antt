pub mod MonthTable
